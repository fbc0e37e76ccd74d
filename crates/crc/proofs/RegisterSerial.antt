-- The register fed bit by bit, as the bits are sent. It is the register fed byte by byte, and the step of the division.
use mathlib.Core.Path.{◌≡◌, refl, sym, ap, ap₂, ◌∙◌}
use mathlib.Core.Bool.{Bool}
use mathlib.Core.List.{List, [], ◌∷◌, ◌++◌}
use Prim.Native.Nat.{ℕ, ◌*◌, ◌^◌, ◌<◌}
use native.Mathlib.Omega.{arith}
use lib.Bits.{bit_xor, xor_lt, xor_comm, xor_zero_r, xor_shifted}
use lib.Dec.{T}
use lib.ListN.{length}
use lib.Pow.{are_bytes}
use Rattle.basics.proofs.ListsLaws.{bytes-head, bytes_tail}
use Rattle.crc.specs.Register.{turn, turns, eat, feed}
use Rattle.crc.specs.Ieee.{Poly, bits, message}
use Rattle.crc.proofs.RegisterBounds.{turn_lt}
use Rattle.crc.proofs.RegisterLinear.{turn-xor, turn_double}
use Rattle.crc.proofs.IeeeBits.{digit, digit_lt, number, number-bits, bits-length, xor_assoc}

unfoldable pub feed_bits : ℕ → Poly → ℕ
feed_bits s [] = s
feed_bits s (b ∷ l) = feed_bits (turn (bit_xor s (digit b))) l

pub bit_lt : (s : ℕ) (b : Bool) → s < 2 ^ 32 → bit_xor s (digit b) < 2 ^ 32
bit_lt s b h = xor_lt 32 s (digit b) h (omega (arith, digit_lt b))

pub feed_bits_lt : (s : ℕ) (l : Poly) → s < 2 ^ 32 → feed_bits s l < 2 ^ 32
unfolding feed_bits
feed_bits_lt s [] h = h
feed_bits_lt s (b ∷ l) h = feed_bits_lt (turn (bit_xor s (digit b))) l (turn_lt (bit_xor s (digit b)) (bit_lt s b h))

pub feed_bits-append : (s : ℕ) (l u : Poly) → feed_bits s (l ++ u) ≡ feed_bits (feed_bits s l) u
unfolding feed_bits
feed_bits-append s [] u = refl
feed_bits-append s (b ∷ l) u = feed_bits-append (turn (bit_xor s (digit b))) l u

-- bits may go in all at once, before their turns
pub feed_bits-turns : (s : ℕ) (l : Poly) → feed_bits s l ≡ turns (length l) (bit_xor s (number l))
unfolding feed_bits number turns
feed_bits-turns s [] = sym (xor_zero_r s)
feed_bits-turns s (b ∷ l) =
    let d = digit b in
    let n = number l in
    feed_bits-turns (turn (bit_xor s d)) l
    ∙ ap (turns (length l))
    (ap (bit_xor (turn (bit_xor s d))) (sym (turn_double n))
    ∙ sym (turn-xor (bit_xor s d) (n * 2))
    ∙ ap turn (xor_assoc s d (n * 2) ∙ ap (bit_xor s) (xor_comm d (n * 2) ∙ xor_shifted n 1 d (digit_lt b))))

eat-bits : (s b : ℕ) → b < 256 → eat s b ≡ feed_bits s (bits 8 b)
unfolding eat
eat-bits s b h =
    sym (feed_bits-turns s (bits 8 b) ∙ ap₂ (λ (n x : ℕ). turns n (bit_xor s x)) (bits-length 8 b) (number-bits 8 b h))

pub feed-bits : (s : ℕ) (bs : List ℕ) → T (are_bytes bs) → feed s bs ≡ feed_bits s (message bs)
unfolding feed feed_bits message
feed-bits s [] t = refl
feed-bits s (b ∷ bs) t =
    feed-bits (eat s b) bs (bytes_tail b bs t)
    ∙ ap (λ (x : ℕ). feed_bits x (message bs)) (eat-bits s b (bytes-head b bs t))
    ∙ sym (feed_bits-append s (bits 8 b) (message bs))
