-- Zeros by OR: bits that are left nowhere are zeros everywhere, of a record and of all places from one on.
use mathlib.Core.Path.{◌≡◌, refl, sym, ap, ap₂, ◌∙◌}
use mathlib.Core.Bool.{Bool, true, ◌&&◌, and_assoc}
use mathlib.Core.List.{List, [], ◌∷◌, ◌++◌}
use Prim.Native.Nat.{ℕ, ◌+◌, ◌*◌, ◌≤◌, ◌<◌}
use native.Mathlib.Numerals.{add-one}
use native.Mathlib.Omega.{arith}
use lib.Bits.{bit_or, and_le_l, and_le_r, or_add_and}
use lib.Dec.{eqb}
use lib.ListN.{length, get_or, drop, drop_of_length-le}
use lib.Seq.{drop-cons}
use borrow.Author.Tests.{eq-eqb, eqb-true}
use Rattle.basics.specs.Lists.{all_are}
use Rattle.basics.specs.Little.{le_number}
use Rattle.basics.proofs.ChoiceLaws.{alike, both, first, second}
use Rattle.codec.specs.declared.Raw.{Raw}
use Rattle.records.proofs.TableJoining.{nowhere}
use Rattle.records.specs.Fitting.{is_zeros, all_zeros}

-- an OR is 0 where both sides are
pub or-none : (x y : ℕ) → eqb (bit_or x y) 0 ≡ (eqb x 0 && eqb y 0)
or-none x y = alike (eqb (bit_or x y) 0) (eqb x 0 && eqb y 0) apart together
  where
    apart : eqb (bit_or x y) 0 ≡ true → eqb x 0 && eqb y 0 ≡ true
    apart e =
        let none = eqb-true (bit_or x y) 0 e in
        both (eq-eqb x 0 (omega (arith, or_add_and x y, and_le_r x y))) (eq-eqb y 0 (omega (arith, or_add_and x y, and_le_l x y)))

    together : eqb x 0 && eqb y 0 ≡ true → eqb (bit_or x y) 0 ≡ true
    together e =
        rw (eqb-true x 0 (first (eqb x 0) (eqb y 0) e), eqb-true y 0 (second (eqb x 0) (eqb y 0) e))

-- a number is 0 where all its bytes are
pub number-none : (bs : List ℕ) → eqb (le_number bs) 0 ≡ all_are 0 bs
unfolding le_number all_are
number-none [] = refl
number-none (b ∷ bs) =
    alike (eqb (b + 256 * le_number bs) 0) (eqb b 0 && eqb (le_number bs) 0)
    (λ e. let none = eqb-true (b + 256 * le_number bs) 0 e in both (eq-eqb b 0 (omega arith)) (eq-eqb (le_number bs) 0 (omega arith)))
    (λ e.
    let low = eqb-true b 0 (first (eqb b 0) (eqb (le_number bs) 0) e) in
    let high = eqb-true (le_number bs) 0 (second (eqb b 0) (eqb (le_number bs) 0) e) in eq-eqb (b + 256 * le_number bs) 0 (omega arith))
    ∙ ap (λ (t : Bool). eqb b 0 && t) (number-none bs)

all_append : (v : ℕ) (xs ys : List ℕ) → all_are v (xs ++ ys) ≡ (all_are v xs && all_are v ys)
unfolding all_are
all_append v [] ys = refl
all_append v (x ∷ xs) ys = ap (λ (t : Bool). eqb x v && t) (all_append v xs ys) ∙ sym (and_assoc (eqb x v) (all_are v xs) (all_are v ys))

-- three numbers, ORed
pub bits_none : (a b d : List ℕ) → eqb (bit_or (bit_or (le_number a) (le_number b)) (le_number d)) 0 ≡ all_are 0 ((a ++ b) ++ d)
bits_none a b d =
    or-none (bit_or (le_number a) (le_number b)) (le_number d)
    ∙ ap₂ (λ (s t : Bool). s && t)
    (or-none (le_number a) (le_number b) ∙ ap₂ (λ (s t : Bool). s && t) (number-none a) (number-none b) ∙ sym (all_append 0 a b))
    (number-none d)
    ∙ sym (all_append 0 (a ++ b) d)

-- a loop over the places, from place i on
module _ (t : List Raw) (i : ℕ) where
  pub zeros_end : length t ≤ i → all_zeros (drop i t) ≡ true
  unfolding all_zeros
  zeros_end h = rw (drop_of_length-le t h)

  zeros-step : i < length t → all_zeros (drop i t) ≡ (is_zeros (get_or t i nowhere) && all_zeros (drop (i + 1) t))
  unfolding all_zeros
  zeros-step h = rw (add-one, drop-cons t i nowhere h)

  -- the bits of one more place ORed in
  pub zeros-turn : (any bits : ℕ) → i < length t → eqb bits 0 ≡ is_zeros (get_or t i nowhere)
      → (eqb (bit_or any bits) 0 && all_zeros (drop (i + 1) t)) ≡ (eqb any 0 && all_zeros (drop i t))
  zeros-turn any bits h e =
      ap (λ (s : Bool). s && all_zeros (drop (i + 1) t)) (or-none any bits ∙ ap (λ (s : Bool). eqb any 0 && s) e)
      ∙ and_assoc (eqb any 0) (is_zeros (get_or t i nowhere)) (all_zeros (drop (i + 1) t))
      ∙ ap (λ (s : Bool). eqb any 0 && s) (sym (zeros-step h))
