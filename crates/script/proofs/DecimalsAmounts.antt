-- Laws of reading a number digit by digit, from the first to the last.
use mathlib.Core.Path.{◌≡◌, ◌∙◌}
use mathlib.Core.Bool.{true, false, ◌&&◌}
use mathlib.Core.List.{List, [], ◌∷◌}
use Prim.Native.Nat.{ℕ, ◌+◌, ◌-◌, ◌*◌, ◌≤◌, ◌<◌}
use native.Mathlib.Numerals.{add-one}
use native.Mathlib.Omega.{arith}
use lib.Dec.{leb}
use lib.ListN.{length, get_or, drop, drop_of_length-le}
use lib.Seq.{drop-cons}
use borrow.Author.Tests.{le-leb, ne_eqb, leb-true}
use Rattle.std.specs.Prelude.{Some, None}
use Rattle.basics.proofs.ChoiceLaws.{both, first, second, fails}
use Rattle.text.specs.Text.{value_from}
use Rattle.script.specs.Decimals.{is_digit, all_digits, amount_from, amount_of}

-- what is read never falls
grows : (v : ℕ) (ds : List ℕ) → v ≤ value_from v ds
unfolding value_from
grows v [] = omega arith
grows v (d ∷ ds) = omega (arith, grows (10 * v + (d - 48)) ds)

pub a-digit : (c : ℕ) → 48 ≤ c → c ≤ 57 → is_digit c ≡ true
a-digit c h k = both (le-leb 48 c h) (le-leb c 57 k)

pub below-digits : (c : ℕ) → c < 48 → is_digit c ≡ false
below-digits c h = fails (is_digit c) (λ e. let k = leb-true 48 c (first (leb 48 c) (leb c 57) e) in omega arith)

pub above-digits : (c : ℕ) → 57 < c → is_digit c ≡ false
above-digits c h = fails (is_digit c) (λ e. let k = leb-true c 57 (second (leb 48 c) (leb c 57) e) in omega arith)

pub no_amount : (most : ℕ) (word : List ℕ) → length word ≡ 0 → amount_of most word ≡ None
unfolding amount_of
no_amount most word e = rw e

pub some_amount : (most : ℕ) (word : List ℕ) → (length word ≡ 0 → ⊥) → amount_of most word ≡ amount_from most 0 word
unfolding amount_of
some_amount most word e = rw (ne_eqb (length word) 0 e)

-- a number that is too large stays so, whatever follows
above : (most v : ℕ) (ds : List ℕ) → most < v → amount_from most v ds ≡ None
unfolding amount_from
above most v ds k =
    let fits = leb (value_from v ds) most in
    let none : all_digits ds && fits ≡ false =
    fails (all_digits ds && fits)
    (λ e. let z = leb-true (value_from v ds) most (second (all_digits ds) fits e) in omega (arith, grows v ds)) in
    rw none

-- a loop over the word, from place i on, with v read so far
module _ (most : ℕ) (word : List ℕ) (i v : ℕ) where
  pub amount_end : length word ≤ i → v ≤ most → amount_from most v (drop i word) ≡ Some v
  unfolding amount_from value_from all_digits
  amount_end h k = rw (drop_of_length-le word h, le-leb v most k)

  module _ (h : i < length word) where
    pub amount_not : is_digit (get_or word i 0) ≡ false → amount_from most v (drop i word) ≡ None
    unfolding amount_from value_from all_digits
    amount_not e = rw (drop-cons word i 0 h, e)

    pub amount_further : is_digit (get_or word i 0) ≡ true
        → amount_from most v (drop i word) ≡ amount_from most (10 * v + (get_or word i 0 - 48)) (drop (i + 1) word)
    unfolding amount_from value_from all_digits
    amount_further e = rw (add-one, drop-cons word i 0 h, e)

    pub amount_above : is_digit (get_or word i 0) ≡ true → most < 10 * v + (get_or word i 0 - 48) → amount_from most v (drop i word) ≡ None
    amount_above e k = amount_further e ∙ above most (10 * v + (get_or word i 0 - 48)) (drop (i + 1) word) k

pub ruleset amount_laws = (no_amount, some_amount, amount_end, amount_not, amount_above)
