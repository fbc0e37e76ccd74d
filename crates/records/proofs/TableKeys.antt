-- Keys stay apart and in their order, whatever joins or is absorbed.
use mathlib.Core.Path.{◌≡◌, refl, sym, ap, ap₂, ◌∙◌}
use mathlib.Core.Bool.{Bool, true, false, ◌&&◌, ◌||◌, or-false, false≢true}
use mathlib.Core.List.{List, [], ◌∷◌, map}
use Prim.Native.Nat.{ℕ}
use lib.Dec.{eqb}
use borrow.Author.Tests.{eqb-true, eq-eqb}
use Rattle.basics.specs.Choice.{pick}
use Rattle.basics.proofs.ChoiceLaws.{both, first, second, fails}
use Rattle.codec.specs.declared.Raw.{Raw}
use Rattle.records.specs.Table.{has_key, same_key, holds, joined, falls, absorbed}

-- no key stands twice
unfoldable pub Apart : List Raw → Type 0
Apart [] = Unit {0}
Apart (e ∷ es) = (holds e.tag e.id es ≡ false) × Apart es

-- of two records that don't have one key, neither has the other's
key_back : (e r : Raw) → same_key e r ≡ false → has_key e.tag e.id r ≡ false
key_back e r k = fails (has_key e.tag e.id r) (λ h. false≢true (sym k ∙ both
    (eq-eqb e.tag r.tag (sym (eqb-true r.tag e.tag (first (eqb r.tag e.tag) (eqb r.id e.id) h))))
    (eq-eqb e.id r.id (sym (eqb-true r.id e.id (second (eqb r.tag e.tag) (eqb r.id e.id) h))))))

-- two records with one key
key_as : (e r : Raw) (tag id : ℕ) → same_key e r ≡ true → has_key tag id e ≡ has_key tag id r
key_as e r tag id k =
    ap₂ (λ (x y : ℕ). eqb x tag && eqb y id)
    (eqb-true e.tag r.tag (first (eqb e.tag r.tag) (eqb e.id r.id) k))
    (eqb-true e.id r.id (second (eqb e.tag r.tag) (eqb e.id r.id) k))

-- one key of two that are the same is found where the other is
pub same-holds : (e r : Raw) (t : List Raw) → same_key e r ≡ true → holds e.tag e.id t ≡ holds r.tag r.id t
same-holds e r t k =
    ap₂ (λ (tag id : ℕ). holds tag id t)
    (eqb-true e.tag r.tag (first (eqb e.tag r.tag) (eqb e.id r.id) k))
    (eqb-true e.id r.id (second (eqb e.tag r.tag) (eqb e.id r.id) k))

-- a record that isn't r is held after r joined just where it was held before
join_holds : (tag id : ℕ) (r : Raw) (t : List Raw) → has_key tag id r ≡ false → holds tag id (joined r t) ≡ holds tag id t
unfolding holds joined
join_holds tag id r [] h = or-false (has_key tag id r) ∙ h
join_holds tag id r (e ∷ es) h = go (join_holds tag id r es h) (same_key e r) refl
  where
    go : holds tag id (joined r es) ≡ holds tag id es → (b : Bool) → same_key e r ≡ b
        → holds tag id (pick b (r ∷ es) (e ∷ joined r es)) ≡ (has_key tag id e || holds tag id es)
    go ih false k = ap (λ (x : Bool). has_key tag id e || x) ih
    go ih true k =
        ap (λ (x : Bool). x || holds tag id es) (h ∙ sym (key_as e r tag id k ∙ h))

-- the same of what is absorbed
absorb_holds : (tag id : ℕ) (r : Raw) (t : List Raw) → has_key tag id r ≡ false → holds tag id (absorbed r t) ≡ holds tag id t
unfolding holds absorbed
absorb_holds tag id r [] h = or-false (has_key tag id r) ∙ h
absorb_holds tag id r (e ∷ es) h = go (absorb_holds tag id r es h) (same_key e r) refl (falls r e)
  where
    go : holds tag id (absorbed r es) ≡ holds tag id es → (b : Bool) → same_key e r ≡ b → (f : Bool)
        → holds tag id (pick b (pick f (e ∷ es) (r ∷ es)) (e ∷ absorbed r es)) ≡ (has_key tag id e || holds tag id es)
    go ih false k f = ap (λ (x : Bool). has_key tag id e || x) ih
    go ih true k true = refl
    go ih true k false = ap (λ (x : Bool). x || holds tag id es) (h ∙ sym (key_as e r tag id k ∙ h))

-- what joins keeps the keys apart
pub join_apart : (r : Raw) (t : List Raw) → Apart t → Apart (joined r t)
unfolding Apart joined holds
join_apart r [] a = (refl, tt)
join_apart r (e ∷ es) a = go (join_apart r es a.1) (same_key e r) refl
  where
    go : Apart (joined r es) → (b : Bool) → same_key e r ≡ b → Apart (pick b (r ∷ es) (e ∷ joined r es))
    go ih true k = (sym (same-holds e r es k) ∙ a.0, a.1)
    go ih false k = (join_holds e.tag e.id r es (key_back e r k) ∙ a.0, ih)

-- and so does what is absorbed
pub absorb_apart : (r : Raw) (t : List Raw) → Apart t → Apart (absorbed r t)
unfolding Apart absorbed holds
absorb_apart r [] a = (refl, tt)
absorb_apart r (e ∷ es) a = go (absorb_apart r es a.1) (same_key e r) refl (falls r e)
  where
    go : Apart (absorbed r es) → (b : Bool) → same_key e r ≡ b → (f : Bool) → Apart (pick b (pick f (e ∷ es) (r ∷ es)) (e ∷ absorbed r es))
    go ih true k true = a
    go ih true k false = (sym (same-holds e r es k) ∙ a.0, a.1)
    go ih false k f = (absorb_holds e.tag e.id r es (key_back e r k) ∙ a.0, ih)

-- a key that is held keeps its place, so the order of the keys stays
pub join_order : {A : Type 0} (f : Raw → A) (r : Raw) (t : List Raw) → ((e : Raw) → same_key e r ≡ true → f e ≡ f r)
    → holds r.tag r.id t ≡ true → map f (joined r t) ≡ map f t
unfolding joined holds
join_order f r [] key h = absurd (false≢true h)
join_order f r (e ∷ es) key h = go (join_order f r es key) (same_key e r) refl h
  where
    go : (holds r.tag r.id es ≡ true → map f (joined r es) ≡ map f es) → (b : Bool) → same_key e r ≡ b → (b || holds r.tag r.id es) ≡ true
        → map f (pick b (r ∷ es) (e ∷ joined r es)) ≡ f e ∷ map f es
    go ih true k h = ap (λ (x : _). x ∷ map f es) (sym (key e k))
    go ih false k h = ap (λ (l : List _). f e ∷ l) (ih h)
