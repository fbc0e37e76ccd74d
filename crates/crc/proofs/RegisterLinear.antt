-- A turn of the register is linear over exclusive-or: so turns of a number are turns of its parts, taken together.
use mathlib.Core.Path.{◌≡◌, refl, sym, ap, ap₂, ◌∙◌}
use Prim.Native.Nat.{ℕ, zero, suc, ◌*◌, ◌/◌, ◌%◌, ◌^◌}
use native.Mathlib.Nat.{mul-one, mod-lt, pow-suc, mul_assoc}
use native.Mathlib.Omega.{arith}
use lib.Bits.{bit_xor, xor_comm, xor_zero_r, xor_shifted}
use lib.Pow.{split, pow_pos}
use Rattle.crc.specs.Ieee.{odd}
use Rattle.crc.specs.Register.{reflected, turn, turns}
use Rattle.crc.proofs.IeeeBits.{digit, digit-odd, odd-xor, half_xor, scaled_xor, xor_assoc}

-- the lowest bit picks the polynomial
pub turn_odd : (s : ℕ) → turn s ≡ bit_xor (s / 2) (digit (odd s) * reflected)
unfolding turn
turn_odd s = ap (λ (x : ℕ). bit_xor (s / 2) (x * reflected)) (sym (digit-odd s))

swap : (a b c d : ℕ) → bit_xor (bit_xor a b) (bit_xor c d) ≡ bit_xor (bit_xor a c) (bit_xor b d)
swap a b c d =
    xor_assoc a b (bit_xor c d)
    ∙ ap (bit_xor a) (sym (xor_assoc b c d) ∙ ap (λ (x : ℕ). bit_xor x d) (xor_comm b c) ∙ xor_assoc c b d)
    ∙ sym (xor_assoc a c (bit_xor b d))

pub turn-xor : (a b : ℕ) → turn (bit_xor a b) ≡ bit_xor (turn a) (turn b)
turn-xor a b =
    turn_odd (bit_xor a b)
    ∙ ap₂ bit_xor (half_xor a b) (rw odd-xor (scaled_xor (odd a) (odd b) reflected))
    ∙ swap (a / 2) (b / 2) (digit (odd a) * reflected) (digit (odd b) * reflected)
    ∙ sym (ap₂ bit_xor (turn_odd a) (turn_odd b))

pub turns-xor : (n a b : ℕ) → turns n (bit_xor a b) ≡ bit_xor (turns n a) (turns n b)
unfolding turns
turns-xor zero a b = refl
turns-xor (suc n) a b = ap (turns n) (turn-xor a b) ∙ turns-xor n (turn a) (turn b)

-- a zero shifted out leaves the rest
pub turn_double : (q : ℕ) → turn (q * 2) ≡ q
unfolding turn
turn_double q =
    let half : q * 2 / 2 ≡ q = omega arith in
    let even : q * 2 % 2 ≡ 0 = omega arith in
    rw (half, even, xor_zero_r)

turns_shift : (n q : ℕ) → turns n (q * 2 ^ n) ≡ q
unfolding turns
turns_shift zero q = mul-one q
turns_shift (suc n) q =
    ap (λ (x : ℕ). turns n (turn x)) (ap (λ (x : ℕ). q * x) (pow-suc 2 n) ∙ sym (mul_assoc q (2 ^ n) 2))
    ∙ ap (turns n) (turn_double (q * 2 ^ n))
    ∙ turns_shift n q

-- n turns: the high bits come down, and the turns of the n low bits are added
pub turns-split : (n s : ℕ) → turns n s ≡ bit_xor (s / 2 ^ n) (turns n (s % 2 ^ n))
turns-split n s =
    let high = s / 2 ^ n in
    let low = s % 2 ^ n in
    ap (turns n) (sym (xor_shifted high n low (mod-lt s (pow_pos n)) ∙ split s n))
    ∙ turns-xor n (high * 2 ^ n) low
    ∙ ap (λ (x : ℕ). bit_xor x (turns n low)) (turns_shift n high)
