-- Laws of where a word ends: by the place of its stop, and as a part of the text.
use mathlib.Core.Path.{◌≡◌, refl, ap, ◌∙◌}
use mathlib.Core.Bool.{Bool, true, false, false≢true}
use mathlib.Core.List.{List, [], ◌∷◌}
use Prim.Native.Nat.{ℕ, suc, ◌+◌, ◌-◌, ◌≤◌, ◌<◌}
use native.Mathlib.Nat.{add-zero}
use native.Mathlib.Numerals.{add-one}
use native.Mathlib.Omega.{arith}
use lib.Dec.{eqb, ltb}
use lib.ListN.{length, get_or, take, drop, length-drop, get_or-eq_default, drop_of_length-le}
use borrow.Author.Tests.{eq-eqb, ne_eqb, ltb-true, ltb-false}
use Rattle.std.specs.Prelude.{Option, Some, None, ◌≢◌, MatchOption, HoldsAt}
use Rattle.std.specs.Option.{unwrap_or}
use Rattle.std.specs.List.{AllWithin}
use Rattle.std.proofs.lemmas.Iterator.{index_from_first}
use Rattle.basics.specs.Choice.{pick}
use Rattle.script.specs.Words.{up_to, end_of, end_behind, space, space_at, word_at}

-- behind the text's end there is nothing
pub end_outside : (stop at : ℕ) (text : List ℕ) → length text < at → end_of stop at text ≡ at
unfolding up_to
end_outside stop at text h = let k : length text ≤ at = omega arith in rw (drop_of_length-le text k, add-zero)

-- how many lie in front of the first stop, by its place where there is one
pub before_stop : (stop : ℕ) (text : List ℕ) (r : Option ℕ)
    → MatchOption r (AllWithin (λ b. b ≢ stop) text 0 (length text))
    (λ i. (i < length text) × HoldsAt (λ b. b ≡ stop) text i × AllWithin (λ b. b ≢ stop) text 0 i)
    → length (up_to stop text) ≡ unwrap_or r (length text)
unfolding up_to
before_stop stop =
    index_from_first (λ l. length (up_to stop l)) (λ b. b ≡ stop) (λ b. b ≢ stop) refl (λ b bs e. rw (eq-eqb b stop e))
    (λ b bs e. rw (ne_eqb b stop e, add-one))

-- what lies in front of the end is a part of the text
pub up_to_short : (stop : ℕ) (l : List ℕ) → length (up_to stop l) ≤ length l
unfolding up_to
up_to_short stop [] = omega arith
up_to_short stop (b ∷ bs) = go (up_to_short stop bs) (eqb b stop)
  where
    go : length (up_to stop bs) ≤ length bs → (t : Bool) → length (pick t [] (b ∷ up_to stop bs)) ≤ suc (length bs)
    go ih true = omega arith
    go ih false = omega arith

up_to_front : (stop : ℕ) (l : List ℕ) → take (length (up_to stop l)) l ≡ up_to stop l
unfolding up_to
up_to_front stop [] = refl
up_to_front stop (b ∷ bs) = go (up_to_front stop bs) (eqb b stop)
  where
    go : take (length (up_to stop bs)) bs ≡ up_to stop bs → (t : Bool)
        → take (length (pick t [] (b ∷ up_to stop bs))) (b ∷ bs) ≡ pick t [] (b ∷ up_to stop bs)
    go ih true = refl
    go ih false = ap (λ (l : List ℕ). b ∷ l) ih

-- behind the text's end stands no space
no_space : (at : ℕ) (text : List ℕ) → length text ≤ at → space_at at text ≡ false
no_space at text h = rw (get_or-eq_default text 0 h)

-- the word behind a space
module _ (at : ℕ) (text : List ℕ) where
  pub behind_none : (get_or text at 0 ≡ space → ⊥) → end_behind at text ≡ None
  unfolding end_behind
  behind_none e = rw (ne_eqb (get_or text at 0) space e)

  pub behind_some : get_or text at 0 ≡ space → end_behind at text ≡ Some (end_of space (at + 1) text)
  unfolding end_behind
  behind_some e = rw (eq-eqb (get_or text at 0) space e)

  pub no_word_outside : length text ≤ at → end_behind at text ≡ None
  unfolding end_behind
  no_word_outside h = rw (no_space at text h)

  pub no_word : end_behind at text ≡ None → space_at at text ≡ false
  unfolding end_behind
  no_word = go (space_at at text)
    where
      go : (t : Bool) → pick t (Some (end_of space (at + 1) text)) None ≡ None → t ≡ false
      go true e = cc
      go false e = refl

  module _ (to : ℕ) (ends : end_behind at text ≡ Some to) where
    pub word_space : space_at at text ≡ true
    unfolding end_behind
    word_space = go (space_at at text) ends
      where
        go : (t : Bool) → pick t (Some (end_of space (at + 1) text)) None ≡ Some to → t ≡ true
        go true e = refl
        go false e = cc

    pub word_end : to ≡ end_of space (at + 1) text
    unfolding end_behind
    word_end = let e : Some (end_of space (at + 1) text) ≡ Some to = rw word_space at ends in cc

    at_inside : at < length text
    at_inside = go (ltb at (length text)) refl
      where
        go : (t : Bool) → ltb at (length text) ≡ t → at < length text
        go true t = ltb-true at (length text) t
        go false t = let none = no_space at text (ltb-false at (length text) t) in let some = word_space in absurd (false≢true cc)

    -- it lies within the text, and is a part of it
    pub word_within : (at + 1 ≤ to) × (to ≤ length text)
    word_within =
        let e = word_end in
        let k = at_inside in
        (omega arith, omega (arith, up_to_short space (drop (at + 1) text), length-drop (at + 1) text))

    pub word_part : take (to - (at + 1)) (drop (at + 1) text) ≡ word_at (at + 1) text
    word_part =
        let k = word_end in
        let e : to - (at + 1) ≡ length (word_at (at + 1) text) = omega arith in
        ap (λ (n : ℕ). take n (drop (at + 1) text)) e ∙ up_to_front space (drop (at + 1) text)

pub ruleset behind_laws = (no_word_outside, behind_none, behind_some)
