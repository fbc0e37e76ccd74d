-- Long division by a polynomial whose highest coefficient is 1, as it is done on paper: it finds a quotient and a remainder,
-- and there is only one remainder. `g` is the divisor without its highest coefficient.
use mathlib.Core.Path.{◌≡◌, refl, sym, ap, ap₂, ◌∙◌}
use mathlib.Core.Bool.{Bool, true, false, xor, ◌&&◌, and-true}
use mathlib.Core.List.{[], ◌∷◌, ◌++◌}
use Prim.Native.Nat.{ℕ, zero, suc, ◌+◌, ◌≤◌}
use native.Mathlib.Omega.{arith}
use lib.ListN.{length, length-map, length-append}
use Rattle.crc.specs.Ieee.{Poly, sum, scale, zeros, times}
use Rattle.crc.proofs.IeeePolynomials.{xor_false, ◌∷∷◌, sum_assoc, sum-length, sum-longer, sum_twice}

module _ (g : Poly) where
  -- n steps: where the highest coefficient is 1 the divisor is subtracted, and that coefficient is gone
  unfoldable pub rem : ℕ → Poly → Poly
  rem zero l = l
  rem (suc n) [] = []
  rem (suc n) (b ∷ l) = rem n (sum (scale b g) l)

  -- the coefficients met on the way
  unfoldable pub quot : ℕ → Poly → Poly
  quot zero l = []
  quot (suc n) [] = []
  quot (suc n) (b ∷ l) = b ∷ quot n (sum (scale b g) l)

  scale-length : (b : Bool) → length (scale b g) ≡ length g
  scale-length b = length-map g (λ (a : Bool). b && a)

  -- a step keeps a list that is long enough
  step-length : (b : Bool) (l : Poly) → length g ≤ length l → length (sum (scale b g) l) ≡ length l
  step-length b l h = sum-length (scale b g) l (omega (arith, scale-length b))

  pub quot-length : (n : ℕ) (l : Poly) → length l ≡ n + length g → length (quot n l) ≡ n
  unfolding quot
  quot-length zero l h = refl
  quot-length (suc n) [] h = absurd (omega arith)
  quot-length (suc n) (b ∷ l) h = ap suc (quot-length n (sum (scale b g) l) (omega (arith, step-length b l (omega arith))))

  pub rem-length : (n : ℕ) (l : Poly) → length l ≡ n + length g → length (rem n l) ≡ length g
  unfolding rem
  rem-length zero l h = omega arith
  rem-length (suc n) [] h = absurd (omega arith)
  rem-length (suc n) (b ∷ l) h = rem-length n (sum (scale b g) l) (omega (arith, step-length b l (omega arith)))

  -- the highest coefficient of a product and a remainder is the quotient's
  top : (a : Bool) → xor (xor (a && true) false) false ≡ a
  top a = xor_false (xor (a && true) false) ∙ xor_false (a && true) ∙ and-true a

  -- what was divided is the product of the quotient and the divisor, and the remainder
  pub divides : (n : ℕ) (l : Poly) → length l ≡ n + length g
      → l ≡ sum (times (quot n l) (true ∷ g)) (zeros n ++ rem n l)
  unfolding sum times rem quot
  divides zero l h = refl
  divides (suc n) [] h = absurd (omega arith)
  divides (suc n) (b ∷ l) h =
      let s = scale b g in
      let q = times (quot n (sum s l)) (true ∷ g) in
      sym (top b
      ∷∷ (sum_assoc s q (zeros n ++ rem n (sum s l))
      ∙ ap (sum s) (sym (divides n (sum s l) (omega (arith, step-length b l (omega arith)))))
      ∙ sum_twice s l (omega (arith, scale-length b))))

  -- and a multiple of the divisor, with r added, has the remainder r
  pub rem_only : (q r : Poly) → length r ≡ length g → rem (length q) (sum (times q (true ∷ g)) (zeros (length q) ++ r)) ≡ r
  unfolding sum times rem
  rem_only [] r h = refl
  rem_only (a ∷ q) r h =
      let s = scale a g in
      let t = times q (true ∷ g) in
      let z = zeros (length q) ++ r in
      ap₂ (λ (x : Bool) (y : Poly). rem (length q) (sum (scale x g) y)) (top a) (sum_assoc s t z)
      ∙ ap (rem (length q)) (sum_twice s (sum t z) (omega (arith, scale-length a, length-append (zeros (length q)) r, sum-longer t z)))
      ∙ rem_only q r h
