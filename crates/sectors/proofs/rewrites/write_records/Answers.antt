-- `sectors::rewrites::write_records` meets its contract.
use mathlib.Core.Path.{◌≡◌, refl, sym, ap, ◌∙◌}
use mathlib.Core.Bool.{Bool, true}
use mathlib.Core.List.{List}
use Prim.Native.Nat.{ℕ, ◌+◌, ◌*◌, ◌≤◌}
use native.Mathlib.Omega.{arith}
use lib.ListN.{length, get_or, take, drop}
use lib.Seq.{length-take-le, get_or-take}
use borrow.Author.Tests.{not-true, not-false}
use Rattle.codec.specs.declared.Raw.{Raw}
use Rattle.codec.specs.Slots.{crc_from, sealed, bytes_of, slot_of}
use Rattle.codec.proofs.SlotsLaws.{sealed_from}
use Rattle.flash.specs.Run.{Flash, Stepped}
use Rattle.records.proofs.TableJoining.{nowhere}
use Rattle.basics.specs.Answers.{is_done}
use Rattle.sectors.specs.declared.Step.{Step}
use Rattle.sectors.specs.Sectors.{write_records}
use Rattle.sectors.specs.Shown.{flash_with, ShowsStep}
use Rattle.sectors.proofs.ShownLaws.{step_is}
use Rattle.sectors.proofs.SectorsTurns.{one, records_end, records_on, records_stop}
use Rattle.sectors.proofs.SectorsCosts.{program-within}
use Rattle.sectors.proofs.rewrites.write_records.Goals as goal

pub loop-i-init : goal.loop-i-init
loop-i-init c = (c.under-start.ensures, refl, omega arith, λ cut. (cut, refl))

pub shape_of-image-then-not-is_ok : goal.shape_of-image-then-not-is_ok
shape_of-image-then-not-is_ok c = c.program-s.auto.image ∙ c.loop-i.invariant.1

pub returns-then-not-is_ok : goal.returns-then-not-is_ok
returns-then-not-is_ok c =
    let records-of : List Raw = take c.args.count c.args.table in
    let records-long : length records-of ≡ c.args.count = length-take-le c.args.count c.args.table
    (omega (arith, c.requires.0, c.well_formed.1.1.1.0.1.0.1)) in
    let flash-of : Bool → Flash = λ now. flash_with c.loop-i.image c.loop-i.u now in
    let turn : Bool → Stepped = λ now. one c.args.sector c.args.seq records-of c.loop-i.i (flash-of now) in
    let stepped : (now : Bool) → ShowsStep (turn now) c.program-s.result c.program-s.new.image = λ now. let a = c.args in
    let r = get_or a.table c.loop-i.i nowhere in
    let bytes =
    c.encode_from.ensures
    ∙ ap (λ (start : ℕ). sealed (crc_from start (bytes_of r)) (bytes_of r)) c.loop-i.invariant.0
    ∙ sealed_from a.seq r
    ∙ ap (slot_of a.seq) (sym (get_or-take a.count a.table c.loop-i.i nowhere (omega arith))) in
    rw bytes at (c.program-s.ensures now) in
    let answer-is : (now : Bool) → is_done (turn now).answer ≡ c.is_ok.result =
    λ now. sym (ap (λ (r : Step). is_done r.answer) (stepped now).shown) ∙ sym c.is_ok.ensures.value in
    λ cut.
    let now = (c.loop-i.invariant.3 cut).0 in
    let failed = answer-is now ∙ not-true c.is_ok.result c.if-not-is_ok.true-raw in
    let stop = records_stop _ _ records-of c.loop-i.i (flash-of now) (omega (arith, records-long)) failed in
    rw (sym (c.loop-i.invariant.3 cut).1 ∙ stop) (stepped now)

pub loop-i-preserved : goal.loop-i-preserved
loop-i-preserved c =
    let records-of : List Raw = take c.args.count c.args.table in
    let records-long : length records-of ≡ c.args.count = length-take-le c.args.count c.args.table
    (omega (arith, c.requires.0, c.well_formed.1.1.1.0.1.0.1)) in
    let flash-of : Bool → Flash = λ now. flash_with c.loop-i.image c.loop-i.u now in
    let turn : Bool → Stepped = λ now. one c.args.sector c.args.seq records-of c.loop-i.i (flash-of now) in
    let stepped : (now : Bool) → ShowsStep (turn now) c.program-s.result c.program-s.new.image = λ now. let a = c.args in
    let r = get_or a.table c.loop-i.i nowhere in
    let bytes =
    c.encode_from.ensures
    ∙ ap (λ (start : ℕ). sealed (crc_from start (bytes_of r)) (bytes_of r)) c.loop-i.invariant.0
    ∙ sealed_from a.seq r
    ∙ ap (slot_of a.seq) (sym (get_or-take a.count a.table c.loop-i.i nowhere (omega arith))) in
    rw bytes at (c.program-s.ensures now) in
    let answer-is : (now : Bool) → is_done (turn now).answer ≡ c.is_ok.result =
    λ now. sym (ap (λ (r : Step). is_done r.answer) (stepped now).shown) ∙ sym c.is_ok.ensures.value in
    let cheap : c.program-s.result.used.programmed ≤ c.args.used.programmed + 16 * (c.loop-i.i + 1) = let a = c.args in
    let same = ap (λ (r : Step). r.used.programmed) (stepped true).shown in
    let most =
    (program-within a.sector (c.loop-i.i + 1) (slot_of a.seq (get_or records-of c.loop-i.i nowhere)) (flash-of true)
    ).programmed in
    omega (arith, same, most, c.loop-i.invariant.2) in (
      c.loop-i.invariant.0,
      c.program-s.auto.image ∙ c.loop-i.invariant.1,
      cheap,
      λ cut.
          let now = (c.loop-i.invariant.3 cut).0 in
          let done = answer-is now ∙ not-false c.is_ok.result c.if-not-is_ok.false-raw in (
            (turn now).flash.cut,
            ap
                (λ (o : Stepped).
                write_records c.args.sector c.args.seq (c.loop-i.i + 1 + 1)
                (drop (c.loop-i.i + 1) records-of) o.flash)
                (sym (step_is (turn now) c.program-s.result c.program-s.new.image (stepped now)))
                ∙ sym (records_on _ _ records-of c.loop-i.i (flash-of now) (omega (arith, records-long)) done)
                ∙ (c.loop-i.invariant.3 cut).1,
          ),
    )

pub shape_of-image : goal.shape_of-image
shape_of-image c = c.loop-i.invariant.1

pub returns : goal.returns
returns c =
    let records-of : List Raw = take c.args.count c.args.table in
    let records-long : length records-of ≡ c.args.count = length-take-le c.args.count c.args.table
    (omega (arith, c.requires.0, c.well_formed.1.1.1.0.1.0.1)) in
    let flash-of : Bool → Flash = λ now. flash_with c.loop-i.image c.loop-i.u now in
    λ cut.
    let now = (c.loop-i.invariant.3 cut).0 in
    let end = records_end _ _ records-of c.loop-i.i (flash-of now) (omega (arith, records-long)) in
    rw (sym (c.loop-i.invariant.3 cut).1 ∙ end) (record { shown = refl; left = refl })
