-- A field of a body, read byte by byte, is the number in its part.
use mathlib.Core.Path.{◌≡◌, sym, ap, ◌∙◌}
use mathlib.Core.List.{List, [], ◌∷◌}
use Prim.Native.Nat.{ℕ, ◌+◌, ◌*◌, ◌≤◌}
use native.Mathlib.Omega.{arith}
use lib.ListN.{length, get_or}
use Rattle.basics.specs.Lists.{part}
use Rattle.basics.specs.Little.{le_number}
use Rattle.basics.proofs.ListsLaws.{read, read-part}
use Rattle.basics.proofs.LittleLaws.{le_append}

-- zeros above a number don't change it
zeros : (a b : ℕ) → le_number (a ∷ b ∷ 0 ∷ 0 ∷ []) ≡ le_number (a ∷ b ∷ [])
unfolding le_number
zeros a b = omega arith

module _ (body : List ℕ) (size : length body ≡ 10) where
  pub field : (i n : ℕ) → i + n ≤ 10 → le_number (read n i body) ≡ le_number (part i n body)
  field i n h = ap le_number (read-part n i body (omega arith))

  -- a number of eight bytes from its two halves
  pub field8 : le_number (read 4 2 body) + 4294967296 * le_number (read 4 6 body) ≡ le_number (part 2 8 body)
  field8 = sym (le_append (read 4 2 body) (read 4 6 body)) ∙ field 2 8 (omega arith)

  -- a number of six bytes, the high half filled up with zeros
  pub field6 : le_number (read 4 2 body) + 4294967296 * le_number (get_or body 6 0 ∷ get_or body 7 0 ∷ 0 ∷ 0 ∷ []) ≡ le_number (part 2 6 body)
  field6 =
      ap (λ (x : ℕ). le_number (read 4 2 body) + 4294967296 * x) (zeros (get_or body 6 0) (get_or body 7 0))
      ∙ sym (le_append (read 4 2 body) (read 2 6 body))
      ∙ field 2 6 (omega arith)
