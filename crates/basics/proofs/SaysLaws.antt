-- What equals a definition says what the definition says: the second half of each promise about an enum.
use mathlib.Core.Path.{◌≡◌, refl, ap, ◌∙◌}
use Prim.Native.Nat.{ℕ}
use Rattle.std.specs.Prelude.{Ok, Err}
use Rattle.basics.specs.Choice.{pick}
use Rattle.basics.specs.Answers.{Answer, is_done, beside}
use Rattle.basics.specs.Says.{value_told}

pub and_says {ℓ κ} : {R : Type ℓ} {S : Type κ} (says : R → S) {r x : R} {y : S} → says x ≡ y → r ≡ x → (r ≡ x) × (says r ≡ y)
and_says says law e = (e, ap says e ∙ law)

-- what is told of a value beside an answer: the value where it is done, else 0
pub told-beside : (a : Answer) (x : ℕ) → value_told (beside a x) ≡ pick (is_done a) x 0
told-beside (Ok d) x = refl
told-beside (Err r) x = refl

-- the value of an answer that is done, and 0 of a refusal, is just what is told of it
pub told-chosen : (a : Answer) (x : ℕ) → value_told (beside a (pick (is_done a) x 0)) ≡ pick (is_done a) x 0
told-chosen (Ok d) x = refl
told-chosen (Err r) x = refl
