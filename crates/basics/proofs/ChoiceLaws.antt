-- Laws of tests: what a conjunction says, and how a statement about a choice is shown by its two cases.
use mathlib.Core.Path.{◌≡◌, refl, ap}
use mathlib.Core.Bool.{Bool, true, false, not, ◌&&◌, false≢true}
use Prim.Native.Nat.{ℕ}
use lib.Dec.{ltb, leb}
use borrow.Author.Tests.{le-ltb, le-leb, ltb-false, leb-true, not-true}
use Rattle.basics.specs.Choice.{pick}

-- a conjunction holds where both parts do
pub both : {a b : Bool} → a ≡ true → b ≡ true → a && b ≡ true
both {a} {b} p q = rw (p, q)

pub first : (a b : Bool) → a && b ≡ true → a ≡ true
first true b e = refl
first false b e = absurd (false≢true e)

pub second : (a b : Bool) → a && b ≡ true → b ≡ true
second true b e = e
second false b e = absurd (false≢true e)

-- a test that cannot pass fails
pub fails : (b : Bool) → (b ≡ true → ⊥) → b ≡ false
fails true h = absurd (h refl)
fails false h = refl

-- two tests that pass alike are the same test
pub alike : (a b : Bool) → (a ≡ true → b ≡ true) → (b ≡ true → a ≡ true) → a ≡ b
alike true true f g = refl
alike true false f g = absurd (false≢true (f refl))
alike false true f g = absurd (false≢true (g refl))
alike false false f g = refl

-- a statement about a choice, by its two cases
pub by_test {ℓ κ} : {A : Type ℓ} (P : A → Type κ) (b : Bool) (x y : A) → (b ≡ true → P x) → (b ≡ false → P y) → P (pick b x y)
by_test P true x y f g = f refl
by_test P false x y f g = g refl

-- a function of a choice is a choice of what it gives
pub pick_through {ℓ κ} : {A : Type ℓ} {B : Type κ} (f : A → B) (b : Bool) (x y : A) → f (pick b x y) ≡ pick b (f x) (f y)
pick_through f true x y = refl
pick_through f false x y = refl

-- a test of "smaller" that fails is a test of "not above"
pub not-ltb : (a b : ℕ) → not (ltb a b) ≡ leb b a
not-ltb a b =
    alike (not (ltb a b)) (leb b a)
    (λ e. le-leb b a (ltb-false a b (not-true (ltb a b) e)))
    (λ e. ap not (le-ltb a b (leb-true b a e)))
