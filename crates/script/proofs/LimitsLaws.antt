-- Numbers below their limits, one by one.
use mathlib.Core.Path.{◌≡◌, refl, sym, subst}
use mathlib.Core.Bool.{Bool, true, false}
use mathlib.Core.List.{List}
use Prim.Native.Nat.{ℕ, zero, suc, ◌≤◌, ◌<◌}
use native.Mathlib.Omega.{arith}
use lib.Dec.{eqb}
use lib.ListN.{length, get_or, set, replicate}
use lib.Seq.{get_or-set_same, get_or-set_other}
use Rattle.script.specs.Limits.{Within}
use borrow.Author.Tests.{eqb-true, eqb-false}

pub within_zeros : (n : ℕ) (most : List ℕ) → Within (replicate n 0) most
within_zeros n most j = omega (arith, none n j)
  where
    none : (n j : ℕ) → ◌≡◌ {A = ℕ} (get_or (replicate n 0) j 0) 0
    none zero j = refl
    none (suc n) zero = refl
    none (suc n) (suc j) = none n j

-- one number more
pub within_set : (xs most : List ℕ) (i v : ℕ) → i < length xs → v ≤ get_or most i 0 → Within xs most → Within (set xs i v) most
within_set xs most i v h fits all j = go (eqb j i) refl
  where
    go : (t : Bool) → eqb j i ≡ t → get_or (set xs i v) j 0 ≤ get_or most j 0
    go true t =
        let here = eqb-true j i t in
        subst (λ (k : ℕ). get_or (set xs i v) k 0 ≤ get_or most k 0) (sym here) (rw (get_or-set_same xs i v 0 h) fits)
    go false t = rw (get_or-set_other xs i j v 0 (eqb-false j i t)) (all j)
