-- IEEE 802.3, clause 3.2.9: the CRC of a frame, as a division of polynomials over GF(2). Its sentences are quoted from memory.
-- A polynomial is the list of its coefficients, the highest degree first: bits in the order in which they are sent.
use Rattle.std.specs.Prelude.{◌≡◌, Bool, false, not, ◌&&◌, ◌||◌, List, [], ◌∷◌, ◌++◌, map, ℕ, zero, suc, ◌/◌, ◌%◌, eqb, length, take, drop, replicate}
use Rattle.std.specs.Bool.{xor}

abbrev pub Poly : Type 0
Poly = List Bool

abbrev pub zeros : ℕ → Poly
zeros n = replicate n false

-- the sum; of two that differ in length, the shorter is added at the top of the longer, as in a long division on paper
unfoldable pub sum : Poly → Poly → Poly
sum [] q = q
sum (a ∷ p) [] = a ∷ p
sum (a ∷ p) (b ∷ q) = xor a b ∷ sum p q

-- a coefficient times a polynomial
abbrev pub scale : Bool → Poly → Poly
scale a p = map (λ (b : Bool). a && b) p

-- "The encoding is defined by the following generating polynomial.
-- G(x) = x^32 + x^26 + x^23 + x^22 + x^16 + x^12 + x^11 + x^10 + x^8 + x^7 + x^5 + x^4 + x^2 + x + 1"
abbrev pub exponents : List ℕ
exponents = 32 ∷ 26 ∷ 23 ∷ 22 ∷ 16 ∷ 12 ∷ 11 ∷ 10 ∷ 8 ∷ 7 ∷ 5 ∷ 4 ∷ 2 ∷ 1 ∷ 0 ∷ []

unfoldable pub among : List ℕ → ℕ → Bool
among [] k = false
among (e ∷ es) k = eqb e k || among es k

-- the coefficients of x^n down to x^0: 1 where the exponent is among those listed
unfoldable pub terms : List ℕ → ℕ → Poly
terms es zero = among es 0 ∷ []
terms es (suc n) = among es (suc n) ∷ terms es n

unfoldable pub generator : Poly
generator = terms exponents 32

-- the product: the multiple of g by the highest coefficient stands one place above the rest
unfoldable pub times : Poly → Poly → Poly
times [] g = []
times (a ∷ q) g = sum (scale a g) (false ∷ times q g)

-- the n bits of a number, the lowest first: "Each octet .. is transmitted least significant bit first" (3.3)
abbrev pub odd : ℕ → Bool
odd s = eqb (s % 2) 1

unfoldable pub bits : ℕ → ℕ → Poly
bits zero s = []
bits (suc n) s = odd s ∷ bits n (s / 2)

-- b) "The n bits of the protected fields are then considered to be the coefficients of a polynomial M(x) of degree n - 1."
unfoldable pub message : List ℕ → Poly
message [] = []
message (b ∷ bs) = bits 8 b ++ message bs

-- a) "The first 32 bits of the frame are complemented." c) "M(x) is multiplied by x^32"
-- Of a frame of less than 32 bits, which the standard does not have, the zeros that follow are complemented too.
unfoldable pub dividend : Poly → Poly
dividend m = map not (take 32 (m ++ zeros 32)) ++ drop 32 (m ++ zeros 32)

-- r is the CRC of the message m, its x^31 first, as it is sent: "The bits of the CRC are thus transmitted in the order x^31, x^30, .. x^1, x^0."
-- So a number is the CRC where its bits, lowest first, are r: `IsCheck m (bits 32 n)`.
pub record IsCheck (m r : Poly) : Type 0 where
  -- c) "and divided by G(x), producing a remainder R(x) of degree ≤ 31."
  pub quotient : Poly
  pub quotient-size : length quotient ≡ length m
  pub remainder : Poly
  pub remainder-size : length remainder ≡ 32
  pub divided : dividend m ≡ sum (times quotient generator) (zeros (length m) ++ remainder)
  -- d) "The coefficients of R(x) are considered to be a 32-bit sequence."
  -- e) "The bit sequence is complemented and the result is the CRC."
  pub complemented : r ≡ map not remainder
