-- A turn of the register is a step of the long division. The register holds what the division has made of the next 32
-- coefficients, lowest bit first; so what it comes to after the message is the remainder.
use mathlib.Core.Path.{◌≡◌, refl, sym, ap, ap₂, ◌∙◌}
use mathlib.Core.Bool.{Bool, true}
use mathlib.Core.List.{[], ◌∷◌, ◌++◌}
use Prim.Native.Nat.{ℕ, suc, ◌*◌, ◌/◌, ◌^◌, ◌<◌}
use native.Mathlib.Omega.{arith}
use lib.Bits.{bit_xor}
use lib.ListN.{length, length-append}
use Rattle.crc.specs.Register.{reflected, turn}
use Rattle.crc.specs.Ieee.{Poly, sum, scale, zeros, generator, terms, among, odd, bits}
use Rattle.crc.proofs.RegisterBounds.{turn_lt}
use Rattle.crc.proofs.IeeeDivision.{rem}
use Rattle.crc.proofs.RegisterLinear.{turn_odd}
use Rattle.crc.proofs.IeeeBits.{digit, half_lt, odd_bit, half_bit, bits-length, bits-xor, bits_scaled, bits_more}
use Rattle.crc.proofs.IeeePolynomials.{sum_assoc, sum_comm, sum_zeros}
use Rattle.crc.proofs.RegisterSerial.{feed_bits, bit_lt}

-- ---- a register of w + 1 bits, and a divisor whose coefficients below the highest are the bits of p
module _ (w p : ℕ) where
  abbrev turn_by : ℕ → ℕ
  turn_by s = bit_xor (s / 2) (digit (odd s) * p)

  -- shifting, and adding the polynomial where a 1 goes out, is a step of the division
  turn-sum : (s : ℕ) (l : Poly) → s / 2 < 2 ^ w → w < length l
      → sum (scale (odd s) (bits (suc w) p)) (sum (bits w (s / 2)) l) ≡ sum (bits (suc w) (turn_by s)) l
  turn-sum s l h k =
      ap₂ sum (sym (bits_scaled (suc w) (odd s) p)) (sym (bits_more w (s / 2) l h k))
      ∙ sym (sum_assoc (bits (suc w) (digit (odd s) * p)) (bits (suc w) (s / 2)) l)
      ∙ ap (λ (x : Poly). sum x l)
      (sum_comm (bits (suc w) (digit (odd s) * p)) (bits (suc w) (s / 2))
      ∙ sym (bits-xor (suc w) (s / 2) (digit (odd s) * p)))

  -- with the next bit of the message
  step : (n s : ℕ) (b : Bool) (l : Poly) → s < 2 ^ suc w → w < length l
      → rem (bits (suc w) p) (suc n) (sum (bits (suc w) s) (b ∷ l))
      ≡ rem (bits (suc w) p) n (sum (bits (suc w) (turn_by (bit_xor s (digit b)))) l)
  unfolding bits sum rem
  step n s b l h k =
      let g = bits (suc w) p in
      let t = bit_xor s (digit b) in
      let same : t / 2 ≡ s / 2 = half_bit s b in
      ap (rem g n)
      (ap₂ (λ (x : Bool) (y : ℕ). sum (scale x g) (sum (bits w y) l)) (sym (odd_bit s b)) (sym same)
      ∙ turn-sum t l (rw same (half_lt w h)) k)

-- ---- CRC-32
-- the divisor's coefficients below x^32 are the bits of the reflected polynomial
abbrev pub low : Poly
low = bits 32 reflected

pub generator-low : generator ≡ true ∷ low
unfolding generator terms among bits
generator-low = refl

-- the register, fed with the message's bits, is what the division leaves
pub register_rem : (s : ℕ) (m : Poly) → s < 2 ^ 32
    → rem low (length m) (sum (bits 32 s) (m ++ zeros 32)) ≡ bits 32 (feed_bits s m)
unfolding rem feed_bits
register_rem s [] h = sum_zeros (bits 32 s) 32 (omega (arith, bits-length 32 s))
register_rem s (b ∷ m) h =
    let t = bit_xor s (digit b) in
    let l = m ++ zeros 32 in
    step 31 reflected (length m) s b l h (omega (arith, length-append m (zeros 32)))
    ∙ ap (λ (x : ℕ). rem low (length m) (sum (bits 32 x) l)) (sym (turn_odd t))
    ∙ register_rem (turn t) m (turn_lt t (bit_lt s b h))
