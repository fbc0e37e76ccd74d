-- One pass over the records: what the marks and the lists beside them say of those passed, and what each record makes of them.
use mathlib.Core.Path.{◌≡◌, refl, sym, ap, ap₂, ◌∙◌}
use mathlib.Core.Bool.{Bool, true, false, not, ◌&&◌, ◌||◌, and-false, or-true, or_assoc, false≢true}
use mathlib.Core.List.{List, [], ◌∷◌, ◌++◌, map, append-nil}
use Prim.Native.Nat.{ℕ, zero, suc, ◌+◌, ◌≤◌, ◌<◌}
use native.Mathlib.Numerals.{add-one}
use native.Mathlib.Omega.{arith}
use lib.Dec.{eqb, ltb}
use lib.ListN.{length, get_or, set, take, drop, replicate, length-set}
use lib.Seq.{take-suc, take_all, length-take-le, split_at, get_or-set_same, get_or-set_other}
use borrow.Author.Tests.{eq-eqb, ne_eqb, eqb-true, lt-ltb, le-ltb, ltb-false}
use Rattle.basics.specs.Choice.{pick}
use Rattle.basics.proofs.ChoiceLaws.{alike, first, second}
use Rattle.codec.specs.declared.Raw.{Raw}
use Rattle.codec.specs.Slots.{no_raw}
use Rattle.records.specs.Table.{limit, has_key, same_key, place_of, key_place, holds, held_of}
use Rattle.std.specs.Prelude.{Option, Some, None}
use Rattle.records.proofs.TableFinding.{key-place, place-most, place-holds}
use Rattle.records.proofs.TableJoining.{nowhere}
use Rattle.records.proofs.LogsPlaces.{beside-stored}
use Rattle.records.specs.Fitting.{keys_fit}
use Rattle.records.specs.Surveys.{found_in, survey_of}

-- ---- keys, wherever a record stands among them
and-swap : (a b c : Bool) → (a && (b && c)) ≡ (b && (a && c))
and-swap true b c = refl
and-swap false b c = sym (and-false b)

or_swap : (a b c : Bool) → (a || (b || c)) ≡ (b || (a || c))
or_swap true b c = sym (or-true b)
or_swap false b c = refl

key_sym : (e r : Raw) → same_key e r ≡ same_key r e
key_sym e r = ap₂ (λ (a b : Bool). a && b) (eqb_sym e.tag r.tag) (eqb_sym e.id r.id)
  where
    eqb_sym : (x y : ℕ) → eqb x y ≡ eqb y x
    eqb_sym x y = alike (eqb x y) (eqb y x) (λ h. eq-eqb y x (sym (eqb-true x y h))) (λ h. eq-eqb x y (sym (eqb-true y x h)))

holds-append : (tag id : ℕ) (xs ys : List Raw) → holds tag id (xs ++ ys) ≡ (holds tag id xs || holds tag id ys)
unfolding holds
holds-append tag id [] ys = refl
holds-append tag id (e ∷ es) ys =
    ap (λ (t : Bool). has_key tag id e || t) (holds-append tag id es ys) ∙ sym (or_assoc (has_key tag id e) (holds tag id es) (holds tag id ys))

holds_move : (tag id : ℕ) (xs : List Raw) (r : Raw) (ys : List Raw) → holds tag id (xs ++ r ∷ ys) ≡ (has_key tag id r || holds tag id (xs ++ ys))
unfolding holds
holds_move tag id xs r ys =
    holds-append tag id xs (r ∷ ys)
    ∙ or_swap (holds tag id xs) (has_key tag id r) (holds tag id ys)
    ∙ ap (λ (t : Bool). has_key tag id r || t) (sym (holds-append tag id xs ys))

-- a record is tested alike wherever it stands
pub keys_move : (xs : List Raw) (r : Raw) (ys : List Raw) → keys_fit (xs ++ r ∷ ys) ≡ keys_fit (r ∷ (xs ++ ys))
unfolding keys_fit holds
keys_move [] r ys = refl
keys_move (e ∷ es) r ys =
    ap₂ (λ (h k : Bool). not (eqb e.tag 0xFF) && (not h && k))
    (holds_move e.tag e.id es r ys ∙ ap (λ (h : Bool). h || holds e.tag e.id (es ++ ys)) (key_sym r e)) (keys_move es r ys)
    ∙ mixed (not (eqb e.tag 0xFF)) (not (eqb r.tag 0xFF)) (same_key e r) (holds e.tag e.id (es ++ ys))
    (holds r.tag r.id (es ++ ys)) (keys_fit (es ++ ys))
  where
    mixed : (a c k b d f : Bool) → (a && (not (k || b) && (c && (not d && f)))) ≡ (c && (not (k || d) && (a && (not b && f))))
    mixed true true true b d f = refl
    mixed true true false b d f = and-swap (not b) (not d) f
    mixed true false k b d f = and-false (not (k || b))
    mixed false true k b d f = sym (and-false (not (k || d)))
    mixed false false k b d f = refl

place-append : (tag id : ℕ) (xs ys : List Raw) → holds tag id xs ≡ false → place_of tag id (xs ++ ys) ≡ length xs + place_of tag id ys
unfolding holds place_of
place-append tag id [] ys h = omega arith
place-append tag id (e ∷ es) ys h = go (place-append tag id es ys) (has_key tag id e) h
  where
    go : (holds tag id es ≡ false → place_of tag id (es ++ ys) ≡ length es + place_of tag id ys) → (b : Bool) → (b || holds tag id es) ≡ false
        → pick b 0 (suc (place_of tag id (es ++ ys))) ≡ suc (length es) + place_of tag id ys
    go ih true h = absurd (false≢true (sym h))
    go ih false h = ap suc (ih h) ∙ omega arith

has_key_same : (tag id : ℕ) (r : Raw) → has_key tag id r ≡ true → (r.tag ≡ tag) × (r.id ≡ id)
has_key_same tag id r h =
    (eqb-true r.tag tag (first (eqb r.tag tag) (eqb r.id id) h), eqb-true r.id id (second (eqb r.tag tag) (eqb r.id id) h))

-- within a list, what a read past its end would give doesn't matter
get_d_any : (t : List Raw) (i : ℕ) (d e : Raw) → i < length t → get_or t i d ≡ get_or t i e
get_d_any [] i d e h = absurd (omega arith)
get_d_any (x ∷ t) zero d e h = refl
get_d_any (x ∷ t) (suc i) d e h = get_d_any t i d e (omega arith)

-- ---- what the loop holds, i records passed
pub record Surveying (tag id : ℕ) (t : List Raw) (met tags ids : List ℕ) (at : ℕ) (held : Option Raw) (i : ℕ) : Type 0 where
  pub few : length t ≤ limit
  pub most : i ≤ length t
  pub fit : keys_fit (take i t) ≡ true
  pub met-long : length met ≡ 256
  pub unmet : (x y : ℕ) → get_or met y 0 ≡ 0 → holds x y (take i t) ≡ false
  pub tags_long : length tags ≡ limit
  pub ids_long : length ids ≡ limit
  pub tags_are : take i tags ≡ map (λ (r : Raw). r.tag) (take i t)
  pub ids_are : take i ids ≡ map (λ (r : Raw). r.id) (take i t)
  pub at-is : at ≡ pick (holds tag id (take i t)) (place_of tag id t) (length t)
  pub held-is : held ≡ pick (holds tag id (take i t)) (Some (get_or t (place_of tag id t) no_raw)) None

-- no record passed
pub start : (tag id : ℕ) (t : List Raw) (at : ℕ) (held : Option Raw) → length t ≤ limit → at ≡ length t → held ≡ None
    → Surveying tag id t (replicate 256 0) (replicate limit 0) (replicate limit 0) at held 0
unfolding keys_fit holds
start tag id t at held few a h = record {
  few = few;
  most = omega arith;
  fit = refl;
  met-long = refl;
  unmet = λ x y e. refl;
  tags_long = refl;
  ids_long = refl;
  tags_are = refl;
  ids_are = refl;
  at-is = a;
  held-is = h;
}

module _ {tag id : ℕ} {t : List Raw} {met tags ids : List ℕ} {at : ℕ} {held : Option Raw} {i : ℕ} (s : Surveying tag id t met tags ids at held i) where
  -- the key's place, as `find` has it
  pub place_passed : (x y : ℕ) → key_place x y (take i tags) (take i ids) ≡ place_of x y (take i t)
  place_passed x y = ap₂ (key_place x y) s.tags_are s.ids_are ∙ key-place x y (take i t)

  passed_long : length (take i t) ≡ i
  passed_long = length-take-le i t s.most

  -- a key that `find` finds stands among those passed, and one that it doesn't find does not
  pub is-met : (x y : ℕ) → key_place x y (take i tags) (take i ids) < i → holds x y (take i t) ≡ true
  is-met x y h = sym (place-holds x y (take i t)) ∙ lt-ltb (place_of x y (take i t)) (length (take i t)) (omega (arith, place_passed x y, passed_long))

  pub not-met : (x y : ℕ) → i ≤ key_place x y (take i tags) (take i ids) → holds x y (take i t) ≡ false
  not-met x y h =
      sym (place-holds x y (take i t)) ∙ le-ltb (place_of x y (take i t)) (length (take i t)) (omega (arith, place_passed x y, passed_long))

  -- all records passed
  pub finish : length t ≤ i → Some (record { at = at; held = held }) ≡ survey_of tag id t
  unfolding held_of
  finish done =
      let all = take_all i t done in
      let place =
      s.at-is
      ∙ ap (λ (l : List Raw). pick (holds tag id l) (place_of tag id t) (length t)) all
      ∙ at_end (holds tag id t) (place-holds tag id t) in
      let there = s.held-is ∙ ap (λ (l : List Raw). pick (holds tag id l) (Some (get_or t (place_of tag id t) no_raw)) None) all in
      (λ k. Some (record { at = place k; held = there k }))
      ∙ ap (λ (b : Bool). pick b (Some (found_in tag id t)) None) (sym s.fit ∙ ap keys_fit all)
    where
      at_end : (b : Bool) → ltb (place_of tag id t) (length t) ≡ b → pick b (place_of tag id t) (length t) ≡ place_of tag id t
      at_end true e = refl
      at_end false e = omega (arith, ltb-false (place_of tag id t) (length t) e, place-most tag id t)

  module _ {r : Raw} (more : i < length t) (here : get_or t i nowhere ≡ r) where
    whole : t ≡ take i t ++ r ∷ drop (suc i) t
    whole = split_at t i nowhere more ∙ ap (λ (x : Raw). take i t ++ x ∷ drop (suc i) t) here

    longer : take (i + 1) t ≡ take i t ++ (r ∷ [])
    longer = rw add-one (take-suc t i nowhere more ∙ ap (λ (x : Raw). take i t ++ (x ∷ [])) here)

    among : keys_fit t ≡ keys_fit (r ∷ (take i t ++ drop (suc i) t))
    among = ap keys_fit whole ∙ keys_move (take i t) r (drop (suc i) t)

    refuses : keys_fit t ≡ false → None ≡ survey_of tag id t
    refuses e = ap (λ (b : Bool). pick b (Some (found_in tag id t)) None) (sym e)

    -- the log doesn't fit where the tag is FF or the key was met before
    pub blank : r.tag ≡ 0xFF → None ≡ survey_of tag id t
    unfolding keys_fit
    blank e = refuses (among ∙ rw e)

    pub twice : holds r.tag r.id (take i t) ≡ true → None ≡ survey_of tag id t
    unfolding keys_fit
    twice e = refuses (among ∙ rw (holds-append r.tag r.id (take i t) (drop (suc i) t), e, and-false))

    module _ (byte : r.id < 256) (tagged : r.tag ≡ 0xFF → ⊥) (fresh : holds r.tag r.id (take i t) ≡ false) where
      now-holds : (x y : ℕ) → holds x y (take (i + 1) t) ≡ (has_key x y r || holds x y (take i t))
      now-holds x y =
          ap (holds x y) longer
          ∙ holds_move x y (take i t) r []
          ∙ ap (λ (l : List Raw). has_key x y r || holds x y l) (append-nil (take i t))

      now-fit : keys_fit (take (i + 1) t) ≡ true
      unfolding keys_fit
      now-fit =
          ap keys_fit longer
          ∙ keys_move (take i t) r []
          ∙ ap (λ (l : List Raw). keys_fit (r ∷ l)) (append-nil (take i t))
          ∙ rw (ne_eqb r.tag 0xFF tagged, fresh, s.fit)

      now-unmet : (x y : ℕ) → get_or (set met r.id 1) y 0 ≡ 0 → holds x y (take (i + 1) t) ≡ false
      now-unmet x y h =
          let other : y ≡ r.id → ⊥ =
          λ e.
          absurd
          (marked
          (sym (get_or-set_same met r.id 1 0 (omega (arith, s.met-long)))
          ∙ ap (λ (n : ℕ). get_or (set met r.id 1) n 0) (sym e)
          ∙ h)) in
          now-holds x y
          ∙ ap₂ (λ (a b : Bool). a || b)
          (ap (λ (b : Bool). eqb r.tag x && b) (ne_eqb r.id y (λ e. other (sym e))) ∙ and-false (eqb r.tag x))
          (s.unmet x y (sym (get_or-set_other met r.id y 1 0 other) ∙ h))
        where
          marked : ◌≡◌ {A = ℕ} 1 0 → ⊥
          marked e = omega arith

      go_on : (at' : ℕ) (held' : Option Raw) → at' ≡ pick (holds tag id (take (i + 1) t)) (place_of tag id t) (length t)
          → held' ≡ pick (holds tag id (take (i + 1) t)) (Some (get_or t (place_of tag id t) no_raw)) None
          → Surveying tag id t (set met r.id 1) (set tags i r.tag) (set ids i r.id) at' held' (i + 1)
      go_on at' held' a h = record {
        few = s.few;
        most = omega arith;
        fit = now-fit;
        met-long = length-set met r.id 1 ∙ s.met-long;
        unmet = now-unmet;
        tags_long = length-set tags i r.tag ∙ s.tags_long;
        ids_long = length-set ids i r.id ∙ s.ids_long;
        tags_are = rw longer (beside-stored (λ (x : Raw). x.tag) (take i t) r tags i (omega (arith, s.tags_long, s.few)) s.tags_are);
        ids_are = rw longer (beside-stored (λ (x : Raw). x.id) (take i t) r ids i (omega (arith, s.ids_long, s.few)) s.ids_are);
        at-is = a;
        held-is = h;
      }

      -- the record with the key
      pub hit : has_key tag id r ≡ true → Surveying tag id t (set met r.id 1) (set tags i r.tag) (set ids i r.id) i (Some r) (i + 1)
      unfolding place_of
      hit key =
          let new = now-holds tag id ∙ ap (λ (b : Bool). b || holds tag id (take i t)) key in
          let its = has_key_same tag id r key in
          let place : place_of tag id t ≡ i =
          ap (place_of tag id) whole
          ∙ place-append tag id (take i t) (r ∷ drop (suc i) t) (ap₂ (λ (x y : ℕ). holds x y (take i t)) (sym its.0) (sym its.1) ∙ fresh)
          ∙ ap (λ (b : Bool). length (take i t) + pick b 0 (suc (place_of tag id (drop (suc i) t)))) key
          ∙ omega (arith, passed_long) in
          go_on i (Some r)
          (sym (ap (λ (b : Bool). pick b (place_of tag id t) (length t)) new ∙ place))
          (sym
          (ap (λ (b : Bool). pick b (Some (get_or t (place_of tag id t) no_raw)) None) new
          ∙ ap (λ (n : ℕ). Some (get_or t n no_raw)) place
          ∙ ap Some (get_d_any t i no_raw nowhere more ∙ here)))

      -- any other
      pub miss : has_key tag id r ≡ false → Surveying tag id t (set met r.id 1) (set tags i r.tag) (set ids i r.id) at held (i + 1)
      miss key =
          let old = sym (now-holds tag id ∙ ap (λ (b : Bool). b || holds tag id (take i t)) key) in
          go_on at held
          (s.at-is ∙ ap (λ (b : Bool). pick b (place_of tag id t) (length t)) old)
          (s.held-is ∙ ap (λ (b : Bool). pick b (Some (get_or t (place_of tag id t) no_raw)) None) old)
