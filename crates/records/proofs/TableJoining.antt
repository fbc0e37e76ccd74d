-- Joining and absorbing a record: in its place or at the end, keys stay apart, and where nothing falls the two are the same.
use mathlib.Core.Path.{◌≡◌, refl, ap}
use mathlib.Core.Bool.{Bool, true, false}
use mathlib.Core.List.{List, [], ◌∷◌, ◌++◌}
use Prim.Native.Nat.{suc, ◌<◌}
use native.Mathlib.Omega.{arith}
use lib.ListN.{length, get_or, set}
use Rattle.basics.specs.Choice.{pick}
use Rattle.codec.specs.declared.Raw.{Raw}
use Rattle.records.specs.Table.{same_key, place_of, joined, falls, absorbed}

-- the element that a read past the end gives
abbrev pub nowhere : Raw
nowhere = record { tag = 0; id = 0; body = [] }

-- ---- joined, by the place of the key
pub join_held : (r : Raw) (t : List Raw) → place_of r.tag r.id t < length t → joined r t ≡ set t (place_of r.tag r.id t) r
unfolding place_of joined
join_held r [] h = absurd (omega arith)
join_held r (e ∷ es) h = go (join_held r es) (same_key e r) h
  where
    go : (place_of r.tag r.id es < length es → joined r es ≡ set es (place_of r.tag r.id es) r) → (b : Bool)
        → pick b 0 (suc (place_of r.tag r.id es)) < suc (length es)
        → pick b (r ∷ es) (e ∷ joined r es) ≡ set (e ∷ es) (pick b 0 (suc (place_of r.tag r.id es))) r
    go ih true h = refl
    go ih false h = ap (λ (l : List Raw). e ∷ l) (ih (omega arith))

pub join_new : (r : Raw) (t : List Raw) → place_of r.tag r.id t ≡ length t → joined r t ≡ t ++ (r ∷ [])
unfolding place_of joined
join_new r [] h = refl
join_new r (e ∷ es) h = go (join_new r es) (same_key e r) h
  where
    go : (place_of r.tag r.id es ≡ length es → joined r es ≡ es ++ (r ∷ [])) → (b : Bool)
        → pick b 0 (suc (place_of r.tag r.id es)) ≡ suc (length es) → pick b (r ∷ es) (e ∷ joined r es) ≡ e ∷ (es ++ (r ∷ []))
    go ih true h = absurd (omega arith)
    go ih false h = ap (λ (l : List Raw). e ∷ l) (ih (omega arith))

-- ---- absorbed: joined, unless a monotonic value falls
pub absorb_join : (r : Raw) (t : List Raw) → falls r (get_or t (place_of r.tag r.id t) nowhere) ≡ false → absorbed r t ≡ joined r t
unfolding place_of joined absorbed
absorb_join r [] h = refl
absorb_join r (e ∷ es) h = go (absorb_join r es) (same_key e r) h
  where
    go : (falls r (get_or es (place_of r.tag r.id es) nowhere) ≡ false → absorbed r es ≡ joined r es) → (b : Bool)
        → falls r (get_or (e ∷ es) (pick b 0 (suc (place_of r.tag r.id es))) nowhere) ≡ false
        → pick b (pick (falls r e) (e ∷ es) (r ∷ es)) (e ∷ absorbed r es) ≡ pick b (r ∷ es) (e ∷ joined r es)
    go ih true h = rw h
    go ih false h = ap (λ (l : List Raw). e ∷ l) (ih h)

pub absorb_kept : (r : Raw) (t : List Raw) → place_of r.tag r.id t < length t
    → falls r (get_or t (place_of r.tag r.id t) nowhere) ≡ true → absorbed r t ≡ t
unfolding place_of absorbed
absorb_kept r [] l h = absurd (omega arith)
absorb_kept r (e ∷ es) l h = go (absorb_kept r es) (same_key e r) l h
  where
    go : (place_of r.tag r.id es < length es → falls r (get_or es (place_of r.tag r.id es) nowhere) ≡ true → absorbed r es ≡ es)
        → (b : Bool) → pick b 0 (suc (place_of r.tag r.id es)) < suc (length es)
        → falls r (get_or (e ∷ es) (pick b 0 (suc (place_of r.tag r.id es))) nowhere) ≡ true
        → pick b (pick (falls r e) (e ∷ es) (r ∷ es)) (e ∷ absorbed r es) ≡ e ∷ es
    go ih true l h = rw h
    go ih false l h = ap (λ (x : List Raw). e ∷ x) (ih (omega arith) h)

-- a new key falls below nothing
pub absorb_new : (r : Raw) (t : List Raw) → place_of r.tag r.id t ≡ length t → absorbed r t ≡ t ++ (r ∷ [])
unfolding place_of absorbed
absorb_new r [] h = refl
absorb_new r (e ∷ es) h = go (absorb_new r es) (same_key e r) h
  where
    go : (place_of r.tag r.id es ≡ length es → absorbed r es ≡ es ++ (r ∷ [])) → (b : Bool)
        → pick b 0 (suc (place_of r.tag r.id es)) ≡ suc (length es)
        → pick b (pick (falls r e) (e ∷ es) (r ∷ es)) (e ∷ absorbed r es) ≡ e ∷ (es ++ (r ∷ []))
    go ih true h = absurd (omega arith)
    go ih false h = ap (λ (l : List Raw). e ∷ l) (ih (omega arith))
