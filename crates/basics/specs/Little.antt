-- Numbers as bytes, little-endian.
use Rattle.std.specs.Prelude.{List, [], ◌∷◌, ℕ, zero, suc, ◌+◌, ◌*◌, ◌/◌, ◌%◌}

-- the n bytes of a number, lowest first; the last place takes all that is left, which is a byte if the number fits
unfoldable pub le_bytes : ℕ → ℕ → List ℕ
le_bytes zero x = []
le_bytes (suc zero) x = x ∷ []
le_bytes (suc (suc n)) x = x % 256 ∷ le_bytes (suc n) (x / 256)

-- the number that bytes spell, lowest first
unfoldable pub le_number : List ℕ → ℕ
le_number [] = 0
le_number (b ∷ bs) = b + 256 * le_number bs
