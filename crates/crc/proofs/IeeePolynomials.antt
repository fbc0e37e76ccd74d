-- The sum of polynomials over GF(2): it is associative and commutative, each polynomial undoes itself, zeros add nothing,
-- and ones complement.
use mathlib.Core.Path.{◌≡◌, refl, ap, ap₂}
use mathlib.Core.Bool.{Bool, true, false, not, xor}
use mathlib.Core.List.{[], ◌∷◌, ◌++◌, map}
use Prim.Native.Nat.{ℕ, zero, suc, ◌≤◌}
use native.Mathlib.Nat.{not-suc-le-zero, le_of_suc-le-suc}
use native.Mathlib.Omega.{arith}
use lib.ListN.{length, take, drop, replicate}
use Rattle.crc.specs.Ieee.{Poly, sum, scale, zeros}

-- ---- one coefficient
pub xor_assoc : (a b c : Bool) → xor (xor a b) c ≡ xor a (xor b c)
unfolding xor
xor_assoc false false false = refl
xor_assoc false false true = refl
xor_assoc false true false = refl
xor_assoc false true true = refl
xor_assoc true false false = refl
xor_assoc true false true = refl
xor_assoc true true false = refl
xor_assoc true true true = refl

pub xor_comm : (a b : Bool) → xor a b ≡ xor b a
unfolding xor
xor_comm false false = refl
xor_comm false true = refl
xor_comm true false = refl
xor_comm true true = refl

pub xor_false : (a : Bool) → xor a false ≡ a
unfolding xor
xor_false false = refl
xor_false true = refl

pub xor_true : (a : Bool) → xor a true ≡ not a
unfolding xor
xor_true false = refl
xor_true true = refl

pub xor-twice : (a b : Bool) → xor a (xor a b) ≡ b
unfolding xor
xor-twice false false = refl
xor-twice false true = refl
xor-twice true false = refl
xor-twice true true = refl

-- ---- lists of them
infixr 20 ◌∷∷◌
pub ◌∷∷◌ : {a b : Bool} {p q : Poly} → a ≡ b → p ≡ q → a ∷ p ≡ b ∷ q
e ∷∷ f = ap₂ (λ (x : Bool) (y : Poly). x ∷ y) e f

pub sum_assoc : (p q r : Poly) → sum (sum p q) r ≡ sum p (sum q r)
unfolding sum
sum_assoc [] q r = refl
sum_assoc (a ∷ p) [] r = refl
sum_assoc (a ∷ p) (b ∷ q) [] = refl
sum_assoc (a ∷ p) (b ∷ q) (c ∷ r) = xor_assoc a b c ∷∷ sum_assoc p q r

pub sum_comm : (p q : Poly) → sum p q ≡ sum q p
unfolding sum
sum_comm [] [] = refl
sum_comm [] (b ∷ q) = refl
sum_comm (a ∷ p) [] = refl
sum_comm (a ∷ p) (b ∷ q) = xor_comm a b ∷∷ sum_comm p q

pub sum_nil : (p : Poly) → sum p [] ≡ p
unfolding sum
sum_nil [] = refl
sum_nil (a ∷ p) = refl

-- ---- a sum is as long as the longer
pub sum-longer : (p q : Poly) → length q ≤ length (sum p q)
unfolding sum
sum-longer [] q = omega arith
sum-longer (a ∷ p) [] = omega arith
sum-longer (a ∷ p) (b ∷ q) = omega (arith, sum-longer p q)

pub sum-length : (p q : Poly) → length p ≤ length q → length (sum p q) ≡ length q
unfolding sum
sum-length [] q h = refl
sum-length (a ∷ p) [] h = absurd (not-suc-le-zero h)
sum-length (a ∷ p) (b ∷ q) h = ap suc (sum-length p q (le_of_suc-le-suc h))

pub sum_twice : (p q : Poly) → length p ≤ length q → sum p (sum p q) ≡ q
unfolding sum
sum_twice [] q h = refl
sum_twice (a ∷ p) [] h = absurd (not-suc-le-zero h)
sum_twice (a ∷ p) (b ∷ q) h = xor-twice a b ∷∷ sum_twice p q (le_of_suc-le-suc h)

pub sum_zeros : (p : Poly) (n : ℕ) → n ≤ length p → sum p (zeros n) ≡ p
unfolding sum
sum_zeros p zero h = sum_nil p
sum_zeros [] (suc n) h = absurd (not-suc-le-zero h)
sum_zeros (a ∷ p) (suc n) h = xor_false a ∷∷ sum_zeros p n (le_of_suc-le-suc h)

-- adding ones complements
pub sum_ones : (p : Poly) (n : ℕ) → n ≤ length p → sum p (replicate n true) ≡ map not (take n p) ++ drop n p
unfolding sum
sum_ones p zero h = sum_nil p
sum_ones [] (suc n) h = absurd (not-suc-le-zero h)
sum_ones (a ∷ p) (suc n) h = xor_true a ∷∷ sum_ones p n (le_of_suc-le-suc h)

pub scale_true : (p : Poly) → scale true p ≡ p
scale_true [] = refl
scale_true (b ∷ p) = refl ∷∷ scale_true p
