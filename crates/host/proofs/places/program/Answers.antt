-- `host::places::program` meets its contract: refused where the image doesn't have the place, and else a step in it.
use Rattle.std.specs.Prelude.{Err}
use mathlib.Core.Path.{◌≡◌, refl, sym, ◌∙◌, ap}
use Prim.Native.Nat.{ℕ}
use native.Mathlib.Omega.{arith}
use lib.ListN.{length}
use mathlib.Core.Bool.{not}
use Rattle.basics.specs.Answers.{is_done}
use Rattle.basics.specs.declared.Refusal.TheVariants.{WriteError}
use Rattle.flash.specs.Image.{sectors_in}
use Rattle.flash.specs.Run.{program}
use Rattle.flash.proofs.ImageSectors.{sectors-fit}
use Rattle.sectors.specs.declared.Used.{Used}
use Rattle.host.specs.Places.{place_answer}
use Rattle.host.proofs.PlacesLaws.{admitted, refused-step, made-step}
use Rattle.host.proofs.places.program.Goals as goal

pub returns-then-is_err : goal.returns-then-is_err
returns-then-is_err c =
    let found : let a = c.args in c.place_answer-answer.result ≡ place_answer (sectors_in (length a.image.now)) a.sector a.slot (Err WriteError) = let a = c.args in
    c.place_answer-answer.ensures ∙ ap (λ (n : ℕ). place_answer n a.sector a.slot (Err WriteError)) c.sectors-n.ensures in
    let a = c.args in
    refused-step a.image.now a.sector a.plan a.slot (Err WriteError) (program a.sector a.slot a.bytes)
    c.place_answer-answer.result found c.unused-used.result c.unused-used.ensures
    (c.is_err.ensures.negation ∙ ap not c.if-is_err.true)

pub program-requires : goal.program-requires
program-requires c =
    let a = c.args in
    let let-in = c.is_err.ensures.negation ∙ ap not c.if-is_err.false in
    let fits =
    admitted c.sectors-n.result a.sector a.slot (Err WriteError) refl
    (sym (ap is_done c.place_answer-answer.ensures) ∙ let-in) in (
      fits.1,
      omega (arith, fits.0, sectors-fit (length a.image.now), c.sectors-n.ensures),
      omega (arith, ap (λ (x : Used). x.programmed) c.unused-used.ensures),
    )

pub returns : goal.returns
returns c =
    let found : let a = c.args in c.place_answer-answer.result ≡ place_answer (sectors_in (length a.image.now)) a.sector a.slot (Err WriteError) = let a = c.args in
    c.place_answer-answer.ensures ∙ ap (λ (n : ℕ). place_answer n a.sector a.slot (Err WriteError)) c.sectors-n.ensures in
    let a = c.args in
    made-step a.image.now a.sector a.plan a.slot (Err WriteError) (program a.sector a.slot a.bytes)
    c.place_answer-answer.result found c.unused-used.result c.unused-used.ensures
    (c.is_err.ensures.negation ∙ ap not c.if-is_err.false) c.program.result c.program.new.image
    c.program.ensures
