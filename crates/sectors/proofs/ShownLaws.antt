-- What an answer and an image show determines the step, but for the mark that a cut leaves.
use mathlib.Core.Path.{◌≡◌, sym}
use mathlib.Core.List.{List}
use Prim.Native.Nat.{ℕ}
use Rattle.flash.specs.Run.{Stepped}
use Rattle.sectors.specs.declared.Step.{Step}
use Rattle.sectors.specs.declared.Tried as tried
use Rattle.sectors.specs.Appends.{SlotTries}
use Rattle.sectors.specs.Shown.{flash_with, ShowsStep, ShowsTried}

pub step_is : (o : Stepped) (r : Step) (image : List ℕ) → ShowsStep o r image
    → o ≡ record { answer = r.answer; flash = flash_with image r.used o.flash.cut }
step_is o r image g =
    let e = g.shown in
    let l = g.left in
    sym
    (λ i.
    record {
      answer = (e i).answer;
      flash = record { image = l i; plan = (e i).used.plan; programmed = (e i).used.programmed; erased = (e i).used.erased; cut = o.flash.cut };
    })

pub tries_are : (o : SlotTries) (r : tried.Tried) (image : List ℕ) → ShowsTried o r image
    → o ≡ record { full = r.full; answer = r.answer; head = r.head; flash = flash_with image r.used o.flash.cut }
tries_are o r image g =
    let e = g.shown in
    let l = g.left in
    sym
    (λ i.
    record {
      full = (e i).full;
      answer = (e i).answer;
      head = (e i).head;
      flash = record { image = l i; plan = (e i).used.plan; programmed = (e i).used.programmed; erased = (e i).used.erased; cut = o.flash.cut };
    })
