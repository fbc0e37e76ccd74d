-- Numbers as lists of bits, the lowest first: exclusive-or is the sum of the lists, and each is read back from the other.
use mathlib.Core.Path.{◌≡◌, refl, sym, ap, ap₂, ◌∙◌}
use mathlib.Core.Bool.{Bool, true, false, xor}
use mathlib.Core.List.{[], ◌∷◌}
use Prim.Native.Nat.{ℕ, zero, suc, ◌+◌, ◌*◌, ◌/◌, ◌%◌, ◌^◌, ◌<◌}
use native.Mathlib.Nat.{not-suc-le-zero, le_of_suc-le-suc, pow-suc, one-mul, zero-mul}
use native.Mathlib.Omega.{arith}
use lib.Arith.{bin_ind, lt-one}
use lib.Bits.{bit_xor, xor_shr, xor_mod, xor_comm, xor_zero_r, xor_self}
use lib.Dec.{eqb}
use lib.ListN.{length}
use Rattle.crc.specs.Ieee.{Poly, sum, scale, odd, bits}
use Rattle.crc.proofs.IeeePolynomials as poly
use Rattle.crc.proofs.IeeePolynomials.{◌∷∷◌}

-- ---- one bit
abbrev pub digit : Bool → ℕ
digit false = 0
digit true = 1

pub digit_lt : (b : Bool) → digit b < 2
digit_lt false = omega arith
digit_lt true = omega arith

digit-one : (b : Bool) → eqb (digit b) 1 ≡ b
digit-one false = refl
digit-one true = refl

odd-digit : (b : Bool) → odd (digit b) ≡ b
odd-digit false = refl
odd-digit true = refl

pub digit-odd : (s : ℕ) → digit (odd s) ≡ s % 2
digit-odd s = below (s % 2) (omega arith)
  where
    below : (x : ℕ) → x < 2 → digit (eqb x 1) ≡ x
    below zero h = refl
    below (suc zero) h = refl
    below (suc (suc x)) h = absurd (omega arith)

digit-xor : (a b : Bool) → bit_xor (digit a) (digit b) ≡ digit (xor a b)
unfolding xor
digit-xor false false = refl
digit-xor false true = refl
digit-xor true false = refl
digit-xor true true = refl

pub odd-xor : (a b : ℕ) → odd (bit_xor a b) ≡ xor (odd a) (odd b)
odd-xor a b =
    ap (λ (x : ℕ). eqb x 1)
    (xor_mod a b 1 ∙ ap₂ bit_xor (sym (digit-odd a)) (sym (digit-odd b)) ∙ digit-xor (odd a) (odd b))
    ∙ digit-one (xor (odd a) (odd b))

-- a bit times a number
pub scaled_xor : (a b : Bool) (p : ℕ) → digit (xor a b) * p ≡ bit_xor (digit a * p) (digit b * p)
unfolding xor
scaled_xor false false p = rw zero-mul
scaled_xor false true p = rw zero-mul
scaled_xor true false p = rw (zero-mul, xor_zero_r (1 * p))
scaled_xor true true p = rw (zero-mul, xor_self)

-- ---- exclusive-or
pub half_xor : (a b : ℕ) → bit_xor a b / 2 ≡ bit_xor (a / 2) (b / 2)
half_xor a b = xor_shr a b 1

-- numbers are equal if their lowest bits and the rest are
same : (a b : ℕ) → odd a ≡ odd b → a / 2 ≡ b / 2 → a ≡ b
same a b e f = omega (arith, digit-odd a, digit-odd b, ap digit e)

pub xor_assoc : (a b c : ℕ) → bit_xor (bit_xor a b) c ≡ bit_xor a (bit_xor b c)
xor_assoc =
    bin_ind (λ (a : ℕ). (b c : ℕ) → bit_xor (bit_xor a b) c ≡ bit_xor a (bit_xor b c)) (λ b c. refl)
    (λ a ih b c.
    same (bit_xor (bit_xor a b) c) (bit_xor a (bit_xor b c))
    (simp odd-xor (poly.xor_assoc (odd a) (odd b) (odd c)))
    (simp half_xor (ih (b / 2) (c / 2))))

xor_back : (a b : ℕ) → bit_xor (bit_xor a b) b ≡ a
xor_back a b = xor_assoc a b b ∙ ap (bit_xor a) (xor_self b) ∙ xor_zero_r a

pub xor_cancel : (a b c : ℕ) → bit_xor a c ≡ bit_xor b c → a ≡ b
xor_cancel a b c e = sym (xor_back a c) ∙ ap (λ (x : ℕ). bit_xor x c) e ∙ xor_back b c

pub xor_cancel_left : (a b c : ℕ) → bit_xor a b ≡ bit_xor a c → b ≡ c
xor_cancel_left a b c e = xor_cancel b c a (xor_comm b a ∙ e ∙ xor_comm a c)

-- ---- bits
pub bits-length : (n s : ℕ) → length (bits n s) ≡ n
unfolding bits
bits-length zero s = refl
bits-length (suc n) s = ap suc (bits-length n (s / 2))

-- exclusive-or with a bit changes the lowest bit alone
pub odd_bit : (s : ℕ) (b : Bool) → odd (bit_xor s (digit b)) ≡ xor (odd s) b
odd_bit s b = odd-xor s (digit b) ∙ ap (xor (odd s)) (odd-digit b)

pub half_bit : (s : ℕ) (b : Bool) → bit_xor s (digit b) / 2 ≡ s / 2
half_bit s b =
    let none : digit b / 2 ≡ 0 = omega (arith, digit_lt b) in
    half_xor s (digit b) ∙ ap (bit_xor (s / 2)) none ∙ xor_zero_r (s / 2)

pub bits-xor : (n a b : ℕ) → bits n (bit_xor a b) ≡ sum (bits n a) (bits n b)
unfolding bits sum
bits-xor zero a b = refl
bits-xor (suc n) a b = odd-xor a b ∷∷ (ap (bits n) (half_xor a b) ∙ bits-xor n (a / 2) (b / 2))

bits_none : (n p : ℕ) → bits n 0 ≡ scale false (bits n p)
unfolding bits
bits_none zero p = refl
bits_none (suc n) p = refl ∷∷ bits_none n (p / 2)

pub bits_scaled : (n : ℕ) (a : Bool) (p : ℕ) → bits n (digit a * p) ≡ scale a (bits n p)
bits_scaled n false p = rw zero-mul (bits_none n p)
bits_scaled n true p = rw one-mul (sym (poly.scale_true (bits n p)))

pub half_lt : (n : ℕ) {s : ℕ} → s < 2 ^ suc n → s / 2 < 2 ^ n
half_lt n h = omega (arith, pow-suc 2 n)

-- a bit above a number's highest adds nothing
pub bits_more : (n s : ℕ) (l : Poly) → s < 2 ^ n → n < length l → sum (bits (suc n) s) l ≡ sum (bits n s) l
unfolding bits sum
bits_more n s [] h k = absurd (not-suc-le-zero k)
bits_more zero s (c ∷ l) h k = (ap (λ (x : ℕ). xor (odd x) c) (lt-one h) ∙ poly.xor_comm false c ∙ poly.xor_false c) ∷∷ refl
bits_more (suc n) s (c ∷ l) h k = refl ∷∷ bits_more n (s / 2) l (half_lt n h) (le_of_suc-le-suc k)

-- ---- the number that bits spell
unfoldable pub number : Poly → ℕ
number [] = 0
number (b ∷ l) = number l * 2 + digit b

pub number-bits : (n s : ℕ) → s < 2 ^ n → number (bits n s) ≡ s
unfolding bits number
number-bits zero s h = sym (lt-one h)
number-bits (suc n) s h = omega (arith, number-bits n (s / 2) (half_lt n h), digit-odd s)

pub bits-number : (l : Poly) → bits (length l) (number l) ≡ l
unfolding bits number
bits-number [] = refl
bits-number (b ∷ l) =
    let n = number l * 2 + digit b in
    let low : n % 2 ≡ digit b = omega (arith, digit_lt b) in
    let high : n / 2 ≡ number l = omega (arith, digit_lt b) in
    (ap (λ (x : ℕ). eqb x 1) low ∙ digit-one b) ∷∷ (ap (bits (length l)) high ∙ bits-number l)

pub number_lt : (l : Poly) → number l < 2 ^ length l
unfolding number
number_lt [] = omega arith
number_lt (b ∷ l) = omega (arith, number_lt l, digit_lt b, pow-suc 2 (length l))
