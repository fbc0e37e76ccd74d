-- Laws of the places that an image has, and of a step in one.
use Rattle.std.specs.Prelude.{Err}
use Rattle.basics.specs.Answers.{all_done, is_done, Answer}
use mathlib.Core.Path.{◌≡◌, refl, sym, ◌∙◌, ap, subst}
use mathlib.Core.Bool.{Bool, true, false, true≢false, ◌&&◌}
use mathlib.Core.List.{List}
use Prim.Native.Nat.{ℕ, ◌<◌}
use lib.Dec.{eqb, ltb}
use lib.ListN.{length}
use borrow.Author.Tests.{ltb-true}
use Rattle.basics.specs.Choice.{pick}
use Rattle.basics.specs.declared.Refusal.TheVariants.{BadImage}
use Rattle.basics.proofs.ChoiceLaws.{first, second, by_test}
use Rattle.flash.specs.declared.Plan.{Plan}
use Rattle.flash.specs.Image.{sectors_in}
use Rattle.flash.specs.Run.{Flash, Stepped}
use Rattle.sectors.specs.declared.Used.{Used}
use Rattle.sectors.specs.declared.Step.{Step}
use Rattle.sectors.specs.Shown.{ShowsStep, flash_with}
use Rattle.decisions.specs.Outcomes.{flash_of}
use Rattle.host.specs.Places.{place_answer, within}

-- a place that isn't refused is in the image
pub admitted : (n sector slot : ℕ) (outside : Answer) → is_done outside ≡ false → is_done (place_answer n sector slot outside) ≡ true
    → (sector < n) × (slot < 256)
unfolding place_answer
admitted n sector slot outside out =
    by_test (λ (a : Answer). is_done a ≡ true → (sector < n) × (slot < 256)) (eqb n 0) (Err BadImage) (pick (ltb sector n && ltb slot 256) all_done outside)
    (λ _ e. absurd (true≢false (sym e)))
    (λ _. by_test (λ (a : Answer). is_done a ≡ true → (sector < n) × (slot < 256)) (ltb sector n && ltb slot 256) all_done outside
    (λ h _. (ltb-true sector n (first (ltb sector n) (ltb slot 256) h), ltb-true slot 256 (second (ltb sector n) (ltb slot 256) h)))
    (λ _ e. absurd (true≢false (sym e ∙ out))))

module _ (image : List ℕ) (sector : ℕ) (plan : Plan) (slot : ℕ) (outside : Answer) (run : Flash → Stepped) (a : Answer)
    (found : a ≡ place_answer (sectors_in (length image)) sector slot outside) (u : Used)
    (unused : u ≡ record { plan = plan; programmed = 0; erased = 0 }) where
  -- all unchanged
  refusal : Stepped
  refusal = record { answer = place_answer (sectors_in (length image)) sector slot outside; flash = flash_of image plan }

  by_place : (b : Bool) → is_done a ≡ b → within image sector plan slot outside run ≡ pick b (run (flash_of image plan)) refusal
  unfolding within refusal
  by_place b e = ap (λ (t : Bool). pick t (run (flash_of image plan)) refusal) (sym (ap is_done found) ∙ e)

  pub refused-step : is_done a ≡ false → ShowsStep (within image sector plan slot outside run) (record { answer = a; used = u }) image
  unfolding refusal
  refused-step e =
      subst (λ (o : Stepped). ShowsStep o (record { answer = a; used = u }) image) (sym (by_place false e))
      (record { shown = λ i. record { answer = found i; used = unused i }; left = refl })

  pub made-step : is_done a ≡ true → (r : Step) (left : List ℕ) → ((cut : Bool) → ShowsStep (run (flash_with image u cut)) r left)
      → ShowsStep (within image sector plan slot outside run) r left
  made-step e r left st =
      subst (λ (o : Stepped). ShowsStep o r left) (sym (by_place true e))
      (subst (λ (v : Used). ShowsStep (run (flash_with image v false)) r left) unused (st false))
