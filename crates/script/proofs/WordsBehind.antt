-- Laws of what stands behind a space: a word that is expected, and a number.
use mathlib.Core.Path.{◌≡◌, refl, sym, ap, ◌∙◌}
use mathlib.Core.Bool.{Bool, true, false, ◌&&◌}
use mathlib.Core.List.{List}
use Prim.Native.Nat.{ℕ, ◌+◌, ◌-◌, ◌≤◌}
use native.Mathlib.Omega.{arith}
use lib.Dec.{eqb, leb}
use lib.ListN.{length, take, drop}
use borrow.Author.Tests.{leb-true}
use Rattle.std.specs.Prelude.{Option, Some, None}
use Rattle.basics.specs.Choice.{pick}
use Rattle.basics.specs.Lists.{same}
use Rattle.basics.proofs.ChoiceLaws.{second, fails}
use Rattle.basics.proofs.ListsLaws.{same_refl, same_eq}
use Rattle.text.specs.Text.{value_from}
use Rattle.script.specs.Words.{space, space_at, word_at, end_of, end_behind, skip_of}
use Rattle.script.specs.Decimals.{all_digits, amount_from, amount_of, taken_at, number_at}
use Rattle.script.proofs.WordsEnds.{no_word, word_space, word_end, word_part}

module _ (word : List ℕ) (at : ℕ) (text : List ℕ) where
  pub skip_none : end_behind at text ≡ None → skip_of word at text ≡ None
  unfolding skip_of
  skip_none e = rw (no_word at text e)

  module _ (to : ℕ) (ends : end_behind at text ≡ Some to) where
    pub skip_here : take (to - (at + 1)) (drop (at + 1) text) ≡ word → skip_of word at text ≡ Some to
    unfolding skip_of
    skip_here e =
        let found : same (word_at (at + 1) text) word ≡ true = rw (sym (word_part at text to ends) ∙ e) (same_refl word) in
        rw (word_space at text to ends, found) (ap Some (sym (word_end at text to ends)))

    pub skip_other : (take (to - (at + 1)) (drop (at + 1) text) ≡ word → ⊥) → skip_of word at text ≡ None
    unfolding skip_of
    skip_other h =
        let other : same (word_at (at + 1) text) word ≡ false =
        fails (same (word_at (at + 1) text) word) (λ e. h (word_part at text to ends ∙ same_eq (word_at (at + 1) text) word e)) in
        rw (word_space at text to ends, other)

module _ (most at : ℕ) (text : List ℕ) where
  pub number_none : end_behind at text ≡ None → number_at most at text ≡ None
  unfolding number_at
  number_none e = rw (no_word at text e)

  module _ (to : ℕ) (ends : end_behind at text ≡ Some to) where
    number_here : number_at most at text ≡ taken_at to (amount_of most (take (to - (at + 1)) (drop (at + 1) text)))
    unfolding number_at
    number_here =
        rw (word_space at text to ends, word_part at text to ends)
        (ap (λ (n : ℕ). taken_at n (amount_of most (word_at (at + 1) text))) (sym (word_end at text to ends)))

    pub number_taken : (v : ℕ) → amount_of most (take (to - (at + 1)) (drop (at + 1) text)) ≡ Some v → number_at most at text ≡ Some (v, to)
    number_taken v e = number_here ∙ ap (taken_at to) e

    pub number_refused : amount_of most (take (to - (at + 1)) (drop (at + 1) text)) ≡ None → number_at most at text ≡ None
    number_refused e = number_here ∙ ap (taken_at to) e

pub ruleset number_laws = (number_none, number_taken, number_refused)

-- a number that is read is within its limit
amount_fits : (most v : ℕ) (word : List ℕ) → amount_of most word ≡ Some v → v ≤ most
unfolding amount_of amount_from
amount_fits most v word = go (eqb (length word) 0)
  where
    fits : (t : Bool) → t ≡ (all_digits word && leb (value_from 0 word) most) → pick t (Some (value_from 0 word)) None ≡ Some v → v ≤ most
    fits true t e =
        let is : value_from 0 word ≡ v = cc in
        omega (arith, leb-true (value_from 0 word) most (second (all_digits word) (leb (value_from 0 word) most) (sym t)))
    fits false t e = cc

    go : (t : Bool) → pick t None (pick (all_digits word && leb (value_from 0 word) most) (Some (value_from 0 word)) None) ≡ Some v → v ≤ most
    go true e = cc
    go false e = fits (all_digits word && leb (value_from 0 word) most) refl e

-- the number of what was taken, 0 where nothing was
abbrev taken_value : Option (ℕ × ℕ) → ℕ
taken_value (Some taken) = taken.0
taken_value None = 0

pub number_fits : (most at v next : ℕ) (text : List ℕ) → number_at most at text ≡ Some (v, next) → v ≤ most
unfolding number_at
number_fits most at v next text = go (space_at at text) (amount_of most (word_at (at + 1) text)) refl
  where
    held : (a : Option ℕ) → a ≡ amount_of most (word_at (at + 1) text) → taken_at (end_of space (at + 1) text) a ≡ Some (v, next) → v ≤ most
    held (Some w) a e = let is : w ≡ v = ap taken_value e in amount_fits most v (word_at (at + 1) text) (sym a ∙ ap Some is)
    held None a e = cc

    go : (t : Bool) (a : Option ℕ) → a ≡ amount_of most (word_at (at + 1) text)
        → pick t (taken_at (end_of space (at + 1) text) a) None ≡ Some (v, next) → v ≤ most
    go true a h e = held a h e
    go false a h e = cc
