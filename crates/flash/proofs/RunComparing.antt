-- The comparison of two lists without a branch: they are the same where the OR of all differences is 0.
use mathlib.Core.Path.{◌≡◌}
use mathlib.Core.Bool.{true, ◌&&◌}
use mathlib.Core.List.{List}
use Prim.Native.Nat.{ℕ, ◌+◌, ◌≤◌, ◌<◌}
use native.Mathlib.Numerals.{add-one}
use native.Mathlib.Omega.{arith}
use lib.Bits.{bit_or, bit_xor, or_add_and, xor_add_and, and_le_l, and_le_r, xor_self}
use lib.Dec.{eqb}
use lib.ListN.{length, get_or, drop, drop_of_length-le}
use lib.Seq.{drop-cons}
use borrow.Author.Tests.{eq-eqb, eqb-true}
use Rattle.basics.specs.Lists.{same}
use Rattle.basics.proofs.ChoiceLaws.{alike, both, first, second}

-- one difference more is still none where there was none and the two are equal
pub differ_none : (d x y : ℕ) → eqb (bit_or d (bit_xor x y)) 0 ≡ (eqb d 0 && eqb x y)
differ_none d x y = alike (eqb (bit_or d (bit_xor x y)) 0) (eqb d 0 && eqb x y) apart together
  where
    apart : eqb (bit_or d (bit_xor x y)) 0 ≡ true → eqb d 0 && eqb x y ≡ true
    apart e =
        let z = bit_xor x y in
        let none = eqb-true (bit_or d z) 0 e in
        both (eq-eqb d 0 (omega (arith, or_add_and d z, and_le_r d z)))
        (eq-eqb x y (omega (arith, or_add_and d z, and_le_l d z, xor_add_and x y, and_le_l x y, and_le_r x y)))

    together : eqb d 0 && eqb x y ≡ true → eqb (bit_or d (bit_xor x y)) 0 ≡ true
    together e =
        rw (eqb-true d 0 (first (eqb d 0) (eqb x y) e), eqb-true x y (second (eqb d 0) (eqb x y) e), xor_self)

-- a loop over both lists, from place i on
module _ (xs ys : List ℕ) (i : ℕ) where
  pub same_end : length xs ≤ i → length ys ≤ i → same (drop i xs) (drop i ys) ≡ true
  unfolding same
  same_end h k = rw (drop_of_length-le xs h, drop_of_length-le ys k)

  pub same_step : i < length xs → i < length ys
      → same (drop i xs) (drop i ys) ≡ (eqb (get_or xs i 0) (get_or ys i 0) && same (drop (i + 1) xs) (drop (i + 1) ys))
  unfolding same
  same_step h k = rw (add-one, drop-cons xs i 0 h, drop-cons ys i 0 k)
