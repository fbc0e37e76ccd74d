-- Laws of the credential table, of what a tag and id mean, and of the tries that are left.
use mathlib.Core.Path.{◌≡◌, refl, ap, sym, ◌∙◌}
use mathlib.Core.Bool.{Bool, true, false, not, ◌&&◌, ◌||◌, false≢true}
use mathlib.Core.Logic.{◌↔◌}
use mathlib.Core.List.{List, [], ◌∷◌}
use Prim.Native.Nat.{ℕ, zero, suc, ◌+◌, ◌-◌, ◌≤◌, ◌<◌}
use native.Mathlib.Omega.{arith}
use lib.Dec.{eqb, ltb}
use lib.ListN.{length, get_or}
use borrow.Author.Tests.{eq-eqb, ne_eqb, eqb-true, eqb-false, lt-ltb, le-ltb, ltb-true, ltb-false, not-true}
use Rattle.basics.specs.Choice.{pick}
use Rattle.basics.proofs.ChoiceLaws.{first, second, by_test, pick_through}
use Rattle.basics.specs.Says.{result_says}
use Rattle.basics.specs.declared.Refusal.{Refusal}
use Rattle.basics.specs.declared.Refusal.TheVariants.{WriteError}
use Rattle.std.specs.Prelude.{cond, Option, Some, None, is_some, Result, Ok, Err}
use Rattle.std.specs.List.{position_from}
use Rattle.ids.specs.declared.Meaning.{Meaning}
use Rattle.ids.specs.declared.Meaning.TheVariants as meaning
use Rattle.ids.specs.declared.CounterState.{CounterState}
use Rattle.ids.specs.Ids.{counter_tag, value_tag, anchor_tag, credentials, place_from, place_of, is_credential, is_value, may_fall}
use Rattle.ids.specs.Ids.{is_monotonic, credential_meaning, value_meaning, meaning_of}
use Rattle.ids.specs.Counters.{fresh_of, remaining_of, total_max, one_more, failed_of, reset_of, failed_says}

-- ---- a search of the table is std's, for the first that is this number
pub place-position : (l : List ℕ) (i x : ℕ) → position_from (λ c. eqb c x) i l ≡ place_from i l x
unfolding place_from
place-position [] i x = refl
place-position (c ∷ cs) i x = go (eqb c x) (position_from (λ d. eqb d x) (i + 1) cs) (place_from (i + 1) cs x) (place-position cs (i + 1) x)
  where
    go : (b : Bool) (p q : Option ℕ) → p ≡ q → cond b (Some i) p ≡ pick b (Some i) q
    go true p q e = refl
    go false p q e = e

-- ---- the numbers of the table are distinct
unfoldable pub is_in : ℕ → List ℕ → Bool
is_in x [] = false
is_in x (y ∷ ys) = eqb x y || is_in x ys

-- no number stands in the list twice
unfoldable pub distinct : List ℕ → Bool
distinct [] = true
distinct (x ∷ xs) = not (is_in x xs) && distinct xs

pub credentials-distinct : distinct credentials ≡ true
unfolding distinct is_in
credentials-distinct = refl

neither : (a b : Bool) → a || b ≡ false → (a ≡ false) × (b ≡ false)
neither true b e = absurd (false≢true (sym e))
neither false b e = (refl, e)

not_in : (x : ℕ) (l : List ℕ) (i : ℕ) → is_in x l ≡ false → i < length l → x ≡ get_or l i 0 → ⊥
unfolding is_in
not_in x [] i e h = absurd (omega arith)
not_in x (y ∷ ys) zero e h = eqb-false x y (neither (eqb x y) (is_in x ys) e).0
not_in x (y ∷ ys) (suc i) e h = not_in x ys i (neither (eqb x y) (is_in x ys) e).1 (omega arith)

place_from_held : (k : ℕ) (l : List ℕ) → distinct l ≡ true → (i : ℕ) → i < length l → place_from k l (get_or l i 0) ≡ Some (k + i)
unfolding distinct place_from
place_from_held k [] d i h = absurd (omega arith)
place_from_held k (x ∷ xs) d zero h = rw (eq-eqb x x refl) (ap Some (omega arith))
place_from_held k (x ∷ xs) d (suc i) h =
    let other = not-true (is_in x xs) (first (not (is_in x xs)) (distinct xs) d) in
    rw (ne_eqb x (get_or xs i 0) (not_in x xs i other (omega arith)))
    (place_from_held (k + 1) xs (second (not (is_in x xs)) (distinct xs) d) i (omega arith) ∙ ap Some (omega arith))

-- each number is found at its own place
pub place-held : (l : List ℕ) → distinct l ≡ true → (i : ℕ) → i < length l → place_of l (get_or l i 0) ≡ Some i
place-held l d i h = place_from_held 0 l d i h ∙ ap Some (omega arith)

place_from_found : (k : ℕ) (l : List ℕ) (x i : ℕ) → place_from k l x ≡ Some i → (k ≤ i) × (i - k < length l) × (get_or l (i - k) 0 ≡ x)
unfolding place_from
place_from_found k [] x i e = let z : ◌≡◌ {A = ℕ} 0 1 = cc in absurd (omega arith)
place_from_found k (c ∷ cs) x i e =
    by_test (λ (p : Option ℕ). p ≡ Some i → (k ≤ i) × (i - k < length (c ∷ cs)) × (get_or (c ∷ cs) (i - k) 0 ≡ x)) (eqb c x) (Some k) (place_from (k + 1) cs x)
    (λ t q. let same : k ≡ i = cc in let here : i - k ≡ 0 = omega arith in (omega arith, omega arith, rw here (eqb-true c x t)))
    (λ t q.
    let f = place_from_found (k + 1) cs x i q in
    let later : i - k ≡ suc (i - (k + 1)) = omega arith in
    (omega arith, omega arith, rw later f.2))
    e

-- and what is found there is the number
pub place_found : (l : List ℕ) (x i : ℕ) → place_of l x ≡ Some i → (i < length l) × (get_or l i 0 ≡ x)
place_found l x i e =
    let f = place_from_found 0 l x i e in
    let same : i - 0 ≡ i = omega arith in
    (omega arith, rw same at f.2)

-- ---- what a tag and id mean
pub credential_place : (x i : ℕ) → meaning_of counter_tag x ≡ meaning.Credential i → place_of credentials x ≡ Some i
unfolding meaning_of
credential_place x i = place (place_of credentials x)
  where
    place : (p : Option ℕ) → credential_meaning p ≡ meaning.Credential i → p ≡ Some i
    place (Some j) e = let same : j ≡ i = cc in ap Some same
    place None e = let z : ◌≡◌ {A = ℕ} 0 1 = cc in absurd (omega arith)

-- a credential is what means some credential under the counters' tag
pub credential_meant : (x : ℕ) → (is_credential x ≡ true) ↔ ((i : ℕ) × (meaning_of counter_tag x ≡ meaning.Credential i))
unfolding meaning_of
credential_meant x = (some (place_of credentials x), λ m. ap is_some (credential_place x m.0 m.1))
  where
    some : (p : Option ℕ) → is_some p ≡ true → (i : ℕ) × (credential_meaning p ≡ meaning.Credential i)
    some (Some i) e = (i, refl)
    some None e = absurd (false≢true e)

-- the meaning of a value that may only grow
abbrev pub grows : Meaning → Bool
grows meaning.Monotonic = true
grows (meaning.Credential i) = false
grows meaning.Free = false
grows meaning.Anchor = false
grows meaning.Unknown = false

pub monotonic_meant : (t d : ℕ) → grows (meaning_of t d) ≡ is_monotonic t d
unfolding is_monotonic meaning_of value_meaning
monotonic_meant t d =
    cases (eqb t counter_tag) (eqb t value_tag) (is_value d) (may_fall d) (eqb t anchor_tag && eqb d 0) (place_of credentials d)
    (λ e. ne_eqb t value_tag (λ f. let u = eqb-true t counter_tag e in omega arith))
  where
    cases : (counter value known falls anchor : Bool) (p : Option ℕ) → (counter ≡ true → value ≡ false)
        → grows
        (pick counter (credential_meaning p)
        (pick value (pick known (pick falls meaning.Free meaning.Monotonic) meaning.Unknown) (pick anchor meaning.Anchor meaning.Unknown)))
        ≡ (value && (known && not falls))
    cases true value known falls anchor (Some i) h = rw (h refl)
    cases true value known falls anchor None h = rw (h refl)
    cases false true true true anchor p h = refl
    cases false true true false anchor p h = refl
    cases false true false falls anchor p h = refl
    cases false false known falls true p h = refl
    cases false false known falls false p h = refl

grows_not : (m : Meaning) → (m ≡ meaning.Monotonic → ⊥) → grows m ≡ false
grows_not (meaning.Credential i) h = refl
grows_not meaning.Monotonic h = absurd (h refl)
grows_not meaning.Free h = refl
grows_not meaning.Anchor h = refl
grows_not meaning.Unknown h = refl

-- what means such a value, and what means anything else
pub monotonic_where : (t d : ℕ) → meaning_of t d ≡ meaning.Monotonic → is_monotonic t d ≡ true
monotonic_where t d e = sym (monotonic_meant t d) ∙ ap grows e

pub monotonic_nowhere_else : (t d : ℕ) → (meaning_of t d ≡ meaning.Monotonic → ⊥) → is_monotonic t d ≡ false
monotonic_nowhere_else t d h = sym (monotonic_meant t d) ∙ grows_not (meaning_of t d) h

pub monotonic_value : (t d : ℕ) → is_monotonic t d ≡ true → (t ≡ value_tag) × (is_value d ≡ true)
unfolding is_monotonic
monotonic_value t d e =
    let known = second (eqb t value_tag) (is_value d && not (may_fall d)) e in
    (eqb-true t value_tag (first (eqb t value_tag) (is_value d && not (may_fall d)) e), first (is_value d) (not (may_fall d)) known)

-- ---- the tries that are left
pub remaining-cases : (P : ℕ → Type 0) (s : CounterState) → (s.total < s.at_reset → P 0)
    → (s.at_reset ≤ s.total → P (s.allowance - (s.total - s.at_reset))) → P (remaining_of s)
unfolding remaining_of
remaining-cases P s below from =
    by_test P (ltb s.total s.at_reset) 0 (s.allowance - (s.total - s.at_reset))
    (λ t. below (ltb-true s.total s.at_reset t))
    (λ t. from (ltb-false s.total s.at_reset t))

pub remaining-below : (s : CounterState) → s.total < s.at_reset → remaining_of s ≡ 0
unfolding remaining_of
remaining-below s h = rw (lt-ltb s.total s.at_reset h)

pub remaining_from : (s : CounterState) → s.at_reset ≤ s.total → remaining_of s ≡ s.allowance - (s.total - s.at_reset)
unfolding remaining_of
remaining_from s h = rw (le-ltb s.total s.at_reset h)

pub remaining_fresh : (n : ℕ) → remaining_of (fresh_of n) ≡ n
remaining_fresh n = remaining_from (fresh_of n) (omega arith) ∙ omega arith

pub remaining_reset : (s : CounterState) (n : ℕ) → remaining_of (reset_of s n) ≡ n
remaining_reset s n = remaining_from (reset_of s n) (omega arith) ∙ omega arith

pub remaining-most : (s : CounterState) → remaining_of s ≤ s.allowance
remaining-most s = remaining-cases (λ (r : ℕ). r ≤ s.allowance) s (λ h. omega arith) (λ h. omega arith)

-- where tries are left, the total is not below at-reset
pub remaining-some : (s : CounterState) → 0 < remaining_of s → s.at_reset ≤ s.total
remaining-some s = remaining-cases (λ (r : ℕ). 0 < r → s.at_reset ≤ s.total) s (λ h some. absurd (omega arith)) (λ h some. h)

-- ---- a failure
pub failed-full : (s : CounterState) → s.total ≡ total_max → failed_of s ≡ Err WriteError
unfolding failed_of
failed-full s e = rw (eq-eqb s.total total_max e)

pub failed_more : (s : CounterState) → (s.total ≡ total_max → ⊥) → failed_of s ≡ Ok (one_more s)
unfolding failed_of
failed_more s h = rw (ne_eqb s.total total_max h)

pub failed-state : (s n : CounterState) → failed_of s ≡ Ok n → n ≡ one_more s
unfolding failed_of
failed-state s n =
    by_test (λ (x : Result CounterState Refusal). x ≡ Ok n → n ≡ one_more s) (eqb s.total total_max) (Err WriteError) (Ok (one_more s))
    (λ t e. let z : ◌≡◌ {A = ℕ} 0 1 = cc in absurd (omega arith))
    (λ t e. (cc))

-- what it says in numbers: 6 at the maximum, else 0 and the next state
pub failed-says : (s : CounterState) → result_says (failed_of s) ≡ failed_says s
unfolding failed_of failed_says
failed-says s = pick_through result_says (eqb s.total total_max) (Err WriteError) (Ok (one_more s))

module _ (s : CounterState) where
  failure_takes : s.at_reset ≤ s.total → remaining_of (one_more s) ≡ remaining_of s - 1
  failure_takes h = omega (arith, remaining_from s h, remaining_from (one_more s) (omega arith))

  pub failure_takes_one : 0 < remaining_of s → remaining_of (one_more s) ≡ remaining_of s - 1
  failure_takes_one some = failure_takes (remaining-some s some)

  pub failure_never_raises : s.at_reset ≤ s.total → remaining_of (one_more s) ≤ remaining_of s
  failure_never_raises h = omega (arith, failure_takes h)

  -- the premise is needed: from one below at-reset, a failure would bring the whole allowance
  pub failure_raises : s.total + 1 ≡ s.at_reset → (remaining_of s ≡ 0) × (remaining_of (one_more s) ≡ s.allowance)
  failure_raises e = (remaining-below s (omega arith), remaining_from (one_more s) (omega arith) ∙ omega arith)
