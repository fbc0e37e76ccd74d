-- Looking a key up: by its place in the table, by tags and ids in two lists, and what the place says.
use mathlib.Core.Path.{◌≡◌, refl, ap, ◌∙◌}
use mathlib.Core.Bool.{Bool, true, false, ◌&&◌, ◌||◌}
use mathlib.Core.List.{List, [], ◌∷◌, map}
use Prim.Native.Nat.{ℕ, suc, ◌+◌, ◌≤◌, ◌<◌}
use native.Mathlib.Numerals.{add-one}
use native.Mathlib.Nat.{add-zero, add-suc, suc-add}
use native.Mathlib.Omega.{arith}
use lib.Dec.{eqb, ltb, leb-suc-suc}
use lib.ListN.{length, get_or, drop, drop_of_length-le}
use lib.Seq.{drop-cons}
use borrow.Author.Tests.{eq-eqb, ne_eqb, lt-ltb}
use Rattle.basics.specs.Choice.{pick}
use Rattle.codec.specs.declared.Raw.{Raw}
use Rattle.records.specs.Table.{has_key, place_of, key_place, holds}

-- ---- tags and ids in two lists stand for the records
pub key-place : (tag id : ℕ) (t : List Raw) → key_place tag id (map (λ (r : Raw). r.tag) t) (map (λ (r : Raw). r.id) t) ≡ place_of tag id t
unfolding key_place place_of
key-place tag id [] = refl
key-place tag id (e ∷ es) = ap (λ (n : ℕ). pick (has_key tag id e) 0 (suc n)) (key-place tag id es)

-- a loop over both lists, from place i on: what is found from here is what is found in all
module _ (tag id : ℕ) where
  abbrev pub found : ℕ → List ℕ → List ℕ → ℕ
  found i tags ids = i + key_place tag id (drop i tags) (drop i ids)

  module _ (tags ids : List ℕ) (i : ℕ) where
    pub found_end : length tags ≤ i → found i tags ids ≡ i
    unfolding key_place
    found_end h = rw (drop_of_length-le tags h, add-zero)

    pub found_here : i < length tags → i < length ids → get_or tags i 0 ≡ tag → get_or ids i 0 ≡ id → found i tags ids ≡ i
    unfolding key_place
    found_here h k a b = rw (drop-cons tags i 0 h, drop-cons ids i 0 k, eq-eqb _ _ a, eq-eqb _ _ b, add-zero)

    past : i < length tags → i < length ids → (eqb (get_or tags i 0) tag && eqb (get_or ids i 0) id) ≡ false → found i tags ids ≡ found (i + 1) tags ids
    unfolding key_place
    past h k e = rw (add-one, drop-cons tags i 0 h, drop-cons ids i 0 k, e, add-suc, suc-add)

    pub found-past-tag : i < length tags → i < length ids → (get_or tags i 0 ≡ tag → ⊥) → found i tags ids ≡ found (i + 1) tags ids
    found-past-tag h k a = past h k (rw (ne_eqb _ _ a))

    pub found-past_id : i < length tags → i < length ids → get_or tags i 0 ≡ tag → (get_or ids i 0 ≡ id → ⊥) → found i tags ids ≡ found (i + 1) tags ids
    found-past_id h k a b = past h k (rw (eq-eqb _ _ a, ne_eqb _ _ b))

-- ---- what a place says
pub place-most : (tag id : ℕ) (t : List Raw) → place_of tag id t ≤ length t
unfolding place_of
place-most tag id [] = omega arith
place-most tag id (e ∷ es) = go (place-most tag id es) (has_key tag id e)
  where
    go : place_of tag id es ≤ length es → (b : Bool) → pick b 0 (suc (place_of tag id es)) ≤ suc (length es)
    go ih true = omega arith
    go ih false = omega arith

-- a key is held just where its place is below the count
pub place-holds : (tag id : ℕ) (t : List Raw) → ltb (place_of tag id t) (length t) ≡ holds tag id t
unfolding place_of holds
place-holds tag id [] = refl
place-holds tag id (e ∷ es) = go (place-holds tag id es) (has_key tag id e)
  where
    go : ltb (place_of tag id es) (length es) ≡ holds tag id es → (b : Bool)
        → ltb (pick b 0 (suc (place_of tag id es))) (suc (length es)) ≡ (b || holds tag id es)
    go ih true = lt-ltb 0 (suc (length es)) (omega arith)
    go ih false = leb-suc-suc (suc (place_of tag id es)) (length es) ∙ ih

-- the record at the place has the key
pub place_key : (tag id : ℕ) (t : List Raw) → place_of tag id t < length t
    → has_key tag id (get_or t (place_of tag id t) (record { tag = 0; id = 0; body = [] })) ≡ true
unfolding place_of
place_key tag id [] h = absurd (omega arith)
place_key tag id (e ∷ es) h = go (place_key tag id es) (has_key tag id e) refl h
  where
    go : (place_of tag id es < length es → has_key tag id (get_or es (place_of tag id es) (record { tag = 0; id = 0; body = [] })) ≡ true)
        → (b : Bool) → has_key tag id e ≡ b → pick b 0 (suc (place_of tag id es)) < suc (length es)
        → has_key tag id (get_or (e ∷ es) (pick b 0 (suc (place_of tag id es))) (record { tag = 0; id = 0; body = [] })) ≡ true
    go ih true e h = e
    go ih false e h = ih (omega arith)
