-- The sector that is chosen is the one that wins, exactly: the fold finds a winner where there is a header, and there is one only.
use Rattle.std.specs.Prelude.{Option, Some, None}
use mathlib.Core.Path.{◌≡◌, refl, sym, subst}
use mathlib.Core.Bool.{Bool, true, false}
use mathlib.Core.Logic.{◌⊎◌, inl, inr}
use Prim.Native.Nat.{ℕ, zero, suc, ◌+◌, ◌≤◌, ◌<◌}
use native.Mathlib.Nat.{zero-add, add-zero}
use native.Mathlib.Omega.{arith}
use lib.Dec.{ltb, eqb}
use borrow.Author.Tests.{ltb-true, ltb-false, eqb-true, eqb-false}
use Rattle.basics.specs.Choice.{pick}
use Rattle.scan.specs.Choosing.{better, best_from, Wins}

-- what is chosen among the first n sectors
abbrev pub Right : (ℕ → Option ℕ) → ℕ → Option (ℕ × ℕ) → Type 0
Right H n None = (s : ℕ) → s < n → H s ≡ None
Right H n (Some (w, seq)) = Wins H n w seq

pub valid_invalid : (h : Option ℕ) (q : ℕ) → h ≡ None → h ≡ Some q → ⊥
valid_invalid h q a b = let z : ◌≡◌ {A = ℕ} 0 1 = cc in omega arith

pub valid_same : (h : Option ℕ) (p q : ℕ) → h ≡ Some p → h ≡ Some q → p ≡ q
valid_same h p q a b = cc

-- a sector below the next one is below this one, or is it
below-or-here : (y x : ℕ) → y < suc x → (y < x) ⊎ (y ≡ x)
below-or-here y x l = go (eqb y x) refl
  where
    go : (b : Bool) → eqb y x ≡ b → (y < x) ⊎ (y ≡ x)
    go true e = inr (eqb-true y x e)
    go false e = let apart = eqb-false y x e in inl (omega arith)

module _ (H : ℕ → Option ℕ) (x : ℕ) where
  -- what holds of the sectors before x and of x holds of all up to x
  each : (P : ℕ → ℕ → Type 0) → ((y o : ℕ) → y < x → H y ≡ Some o → P y o) → ((o : ℕ) → H x ≡ Some o → P x o)
      → (y o : ℕ) → y < suc x → H y ≡ Some o → P y o
  each P before here y o l k = go (below-or-here y x l)
    where
      go : (y < x) ⊎ (y ≡ x) → P y o
      go (inl m) = before y o m k
      go (inr e) = subst (λ (z : ℕ). P z o) (sym e) (here o (subst (λ (z : ℕ). H z ≡ Some o) e k))

  right_step : (b : Option (ℕ × ℕ)) (h : Option ℕ) → H x ≡ h → Right H x b → Right H (suc x) (better b x h)
  right_step None None e g = λ y l. go y (below-or-here y x l)
    where
      go : (y : ℕ) → (y < x) ⊎ (y ≡ x) → H y ≡ None
      go y (inl m) = g y m
      go y (inr z) = rw z e
  right_step None (Some q) e g = record {
    within = omega arith;
    own = e;
    beats =
        each (λ (y o : ℕ). (o < q) ⊎ ((o ≡ q) × (x ≤ y))) (λ y o l k. absurd (valid_invalid (H y) o (g y l) k))
        (λ o k. inr (valid_same (H x) o q k e, omega arith));
  }
  right_step (Some (w, q)) None e g = record {
    within = omega (arith, g.within);
    own = g.own;
    beats = each (λ (y o : ℕ). (o < q) ⊎ ((o ≡ q) × (w ≤ y))) g.beats (λ o k. absurd (valid_invalid (H x) o e k));
  }
  right_step (Some (w, q)) (Some p) e g = split (ltb q p) refl
    where
      lower : (y o : ℕ) → q < p → (o < q) ⊎ ((o ≡ q) × (w ≤ y)) → (o < p) ⊎ ((o ≡ p) × (x ≤ y))
      lower y o m (inl a) = inl (omega arith)
      lower y o m (inr a) = inl (omega arith)

      newer : (o : ℕ) → o ≡ p → p ≤ q → (b : Bool) → eqb p q ≡ b → (o < q) ⊎ ((o ≡ q) × (w ≤ x))
      newer o z m true v = let same = eqb-true p q v in inr (omega arith, omega (arith, g.within))
      newer o z m false v = let apart = eqb-false p q v in inl (omega arith)

      split : (b : Bool) → ltb q p ≡ b → Right H (suc x) (pick b (Some (x, p)) (Some (w, q)))
      split true u = record {
        within = omega arith;
        own = e;
        beats =
            each (λ (y o : ℕ). (o < p) ⊎ ((o ≡ p) × (x ≤ y))) (λ y o l k. lower y o (ltb-true q p u) (g.beats y o l k))
            (λ o k. inr (valid_same (H x) o p k e, omega arith));
      }
      split false u = record {
        within = omega (arith, g.within);
        own = g.own;
        beats =
            each (λ (y o : ℕ). (o < q) ⊎ ((o ≡ q) × (w ≤ y))) g.beats
            (λ o k. newer o (valid_same (H x) o p k e) (ltb-false q p u) (eqb p q) refl);
      }

right_from : (H : ℕ → Option ℕ) (n x : ℕ) (b : Option (ℕ × ℕ)) → Right H x b → Right H (x + n) (best_from n x H b)
unfolding best_from
right_from H zero x b g = rw add-zero g
right_from H (suc n) x b g =
    let on : x + suc n ≡ suc x + n = omega arith in
    rw on (right_from H n (suc x) (better b x (H x)) (right_step H x b (H x) refl g))

-- what is chosen is right
pub chosen_right : (H : ℕ → Option ℕ) (n : ℕ) → Right H n (best_from n 0 H None)
chosen_right H n = subst (λ (m : ℕ). Right H m (best_from n 0 H None)) (zero-add n) (right_from H n 0 None (λ y l. absurd (omega arith)))

-- there is one winner only
pub one_winner : (H : ℕ → Option ℕ) (n w q v p : ℕ) → Wins H n w q → Wins H n v p → (w ≡ v) × (q ≡ p)
one_winner H n w q v p a b = go (a.beats v p b.within b.own) (b.beats w q a.within a.own)
  where
    go : (p < q) ⊎ ((p ≡ q) × (w ≤ v)) → (q < p) ⊎ ((q ≡ p) × (v ≤ w)) → (w ≡ v) × (q ≡ p)
    go (inl c) (inl d) = absurd (omega arith)
    go (inl c) (inr d) = absurd (omega arith)
    go (inr c) (inl d) = absurd (omega arith)
    go (inr c) (inr d) = (omega arith, omega arith)

-- so what wins is chosen, and without a header nothing is
pub winner_chosen : (H : ℕ → Option ℕ) (n w q : ℕ) → Wins H n w q → best_from n 0 H None ≡ Some (w, q)
winner_chosen H n w q g = go (best_from n 0 H None) (chosen_right H n)
  where
    go : (b : Option (ℕ × ℕ)) → Right H n b → b ≡ Some (w, q)
    go None k = absurd (valid_invalid (H w) q (k w g.within) g.own)
    go (Some (v, p)) k = let same = one_winner H n w q v p g k in rw (same.0, same.1)

pub none-chosen : (H : ℕ → Option ℕ) (n : ℕ) → ((s : ℕ) → s < n → H s ≡ None) → best_from n 0 H None ≡ None
none-chosen H n g = go (best_from n 0 H None) (chosen_right H n)
  where
    go : (b : Option (ℕ × ℕ)) → Right H n b → b ≡ None
    go None k = refl
    go (Some (v, p)) k = absurd (valid_invalid (H v) p (g v k.within) k.own)
