-- `sectors::rewrites::write_sector` meets its contract.
use mathlib.Core.Path.{◌≡◌, sym, ap, ◌∙◌}
use mathlib.Core.Bool.{Bool, true}
use mathlib.Core.List.{List}
use Prim.Native.Nat.{◌+◌, ◌*◌, ◌≤◌}
use native.Mathlib.Omega.{arith}
use lib.ListN.{length, take, length-take}
use borrow.Author.Tests.{not-true, not-false}
use Rattle.basics.specs.Answers.{is_done}
use Rattle.codec.specs.declared.Raw.{Raw}
use Rattle.flash.specs.Run.{Flash, Stepped, erase}
use Rattle.sectors.specs.Shown.{flash_with, ShowsStep}
use Rattle.sectors.proofs.ShownLaws.{step_is}
use Rattle.sectors.proofs.SectorsTurns.{wiped, filled, sector_unerased, sector_unfilled, sector-headed}
use Rattle.sectors.proofs.SectorsCosts.{erase-within, records_within}
use Rattle.sectors.proofs.rewrites.write_sector.Goals as goal

pub returns-then-not-is_ok : goal.returns-then-not-is_ok
returns-then-not-is_ok c =
    let first-flash : Bool → Flash = λ cut. flash_with c.args.image.now c.args.used cut in
    let records-of : List Raw = take c.args.count c.args.table in
    let erasing : Bool → Stepped = λ cut. erase c.args.sector (first-flash cut) in
    let erased-is : (cut : Bool) → erasing cut
    ≡ record { answer = c.erase-e.result.answer; flash = flash_with c.erase-e.new.image c.erase-e.result.used (erasing cut).flash.cut } = λ cut.
    step_is (erasing cut) c.erase-e.result c.erase-e.new.image (c.erase-e.ensures cut) in
    let erase-answer : (cut : Bool) → is_done (erasing cut).answer ≡ c.is_ok.result =
    λ cut. ap (λ (o : Stepped). is_done o.answer) (erased-is cut) ∙ sym c.is_ok.ensures.value in
    λ cut.
    let a = c.args in
    let failed = erase-answer cut ∙ not-true c.is_ok.result c.if-not-is_ok.true-raw in
    rw (sector_unerased a.sector a.seq records-of (first-flash cut) failed) (c.erase-e.ensures cut)

pub write_records-w-requires : goal.write_records-w-requires
write_records-w-requires c =
    let first-flash : Bool → Flash = λ cut. flash_with c.args.image.now c.args.used cut in
    let erasing : Bool → Stepped = λ cut. erase c.args.sector (first-flash cut) in
    let erased-is : (cut : Bool) → erasing cut
    ≡ record { answer = c.erase-e.result.answer; flash = flash_with c.erase-e.new.image c.erase-e.result.used (erasing cut).flash.cut } = λ cut.
    step_is (erasing cut) c.erase-e.result c.erase-e.new.image (c.erase-e.ensures cut) in
    let erase-cheap : c.erase-e.result.used.programmed ≤ c.args.used.programmed = let w = (erase-within c.args.sector (first-flash true)).programmed in
    omega (arith, w, ap (λ (o : Stepped). o.flash.programmed) (erased-is true)) in
    (c.requires.0, rw c.erase-e.auto.image c.requires.1, omega (arith, erase-cheap, c.requires.2))

pub returns-then-not-is_ok-2 : goal.returns-then-not-is_ok-2
returns-then-not-is_ok-2 c =
    let first-flash : Bool → Flash = λ cut. flash_with c.args.image.now c.args.used cut in
    let records-of : List Raw = take c.args.count c.args.table in
    let erasing : Bool → Stepped = λ cut. erase c.args.sector (first-flash cut) in
    let erased-is : (cut : Bool) → erasing cut
    ≡ record { answer = c.erase-e.result.answer; flash = flash_with c.erase-e.new.image c.erase-e.result.used (erasing cut).flash.cut } = λ cut.
    step_is (erasing cut) c.erase-e.result c.erase-e.new.image (c.erase-e.ensures cut) in
    let filling : Bool → Stepped = λ cut. filled c.args.sector c.args.seq records-of (first-flash cut) in
    let filled-shown : (cut : Bool) → ShowsStep (filling cut) c.write_records-w.result c.write_records-w.new.image =
    λ cut. rw (ap (λ (x : Stepped). x.flash) (sym (erased-is cut))) at (c.write_records-w.ensures (erasing cut).flash.cut) in
    let filled_is : (cut : Bool) → filling cut
    ≡ record {
      answer = c.write_records-w.result.answer;
      flash = flash_with c.write_records-w.new.image c.write_records-w.result.used
          (filling cut).flash.cut;
    } = λ cut. step_is (filling cut) c.write_records-w.result c.write_records-w.new.image (filled-shown cut) in
    let erase-answer : (cut : Bool) → is_done (erasing cut).answer ≡ c.is_ok.result =
    λ cut. ap (λ (o : Stepped). is_done o.answer) (erased-is cut) ∙ sym c.is_ok.ensures.value in
    let fill-answer : (cut : Bool) → is_done (filling cut).answer ≡ c.is_ok-2.result =
    λ cut. ap (λ (o : Stepped). is_done o.answer) (filled_is cut) ∙ sym c.is_ok-2.ensures.value in
    let erase-done : (cut : Bool) → is_done (erasing cut).answer ≡ true = λ cut. erase-answer cut ∙ not-false c.is_ok.result c.if-not-is_ok.false-raw in
    λ cut.
    let a = c.args in
    let failed = fill-answer cut ∙ not-true c.is_ok-2.result c.if-not-is_ok-2.true-raw in
    rw (sector_unfilled a.sector a.seq records-of (first-flash cut) (erase-done cut) failed) (filled-shown cut)

pub program-requires : goal.program-requires
program-requires c =
    let first-flash : Bool → Flash = λ cut. flash_with c.args.image.now c.args.used cut in
    let records-of : List Raw = take c.args.count c.args.table in
    let erasing : Bool → Stepped = λ cut. erase c.args.sector (first-flash cut) in
    let erased-is : (cut : Bool) → erasing cut
    ≡ record { answer = c.erase-e.result.answer; flash = flash_with c.erase-e.new.image c.erase-e.result.used (erasing cut).flash.cut } = λ cut.
    step_is (erasing cut) c.erase-e.result c.erase-e.new.image (c.erase-e.ensures cut) in
    let filling : Bool → Stepped = λ cut. filled c.args.sector c.args.seq records-of (first-flash cut) in
    let filled-shown : (cut : Bool) → ShowsStep (filling cut) c.write_records-w.result c.write_records-w.new.image =
    λ cut. rw (ap (λ (x : Stepped). x.flash) (sym (erased-is cut))) at (c.write_records-w.ensures (erasing cut).flash.cut) in
    let filled_is : (cut : Bool) → filling cut
    ≡ record {
      answer = c.write_records-w.result.answer;
      flash = flash_with c.write_records-w.new.image c.write_records-w.result.used
          (filling cut).flash.cut;
    } = λ cut. step_is (filling cut) c.write_records-w.result c.write_records-w.new.image (filled-shown cut) in
    let fill-cheap : c.write_records-w.result.used.programmed ≤ c.args.used.programmed + 16 * c.args.count = let most =
    (records_within c.args.sector c.args.seq 1 records-of
    (wiped c.args.sector c.args.seq records-of (first-flash true))).programmed in
    let few : length records-of ≤ c.args.count = omega (arith, length-take c.args.count c.args.table) in
    omega (
      arith,
      most,
      few,
      (erase-within c.args.sector (first-flash true)).programmed,
      ap (λ (o : Stepped). o.flash.programmed) (filled_is true),
    ) in
    (omega arith, rw (c.write_records-w.auto.image ∙ c.erase-e.auto.image) c.requires.1, omega (arith, fill-cheap, c.requires.2))

pub returns : goal.returns
returns c =
    let first-flash : Bool → Flash = λ cut. flash_with c.args.image.now c.args.used cut in
    let records-of : List Raw = take c.args.count c.args.table in
    let erasing : Bool → Stepped = λ cut. erase c.args.sector (first-flash cut) in
    let erased-is : (cut : Bool) → erasing cut
    ≡ record { answer = c.erase-e.result.answer; flash = flash_with c.erase-e.new.image c.erase-e.result.used (erasing cut).flash.cut } = λ cut.
    step_is (erasing cut) c.erase-e.result c.erase-e.new.image (c.erase-e.ensures cut) in
    let filling : Bool → Stepped = λ cut. filled c.args.sector c.args.seq records-of (first-flash cut) in
    let filled-shown : (cut : Bool) → ShowsStep (filling cut) c.write_records-w.result c.write_records-w.new.image =
    λ cut. rw (ap (λ (x : Stepped). x.flash) (sym (erased-is cut))) at (c.write_records-w.ensures (erasing cut).flash.cut) in
    let filled_is : (cut : Bool) → filling cut
    ≡ record {
      answer = c.write_records-w.result.answer;
      flash = flash_with c.write_records-w.new.image c.write_records-w.result.used
          (filling cut).flash.cut;
    } = λ cut. step_is (filling cut) c.write_records-w.result c.write_records-w.new.image (filled-shown cut) in
    let erase-answer : (cut : Bool) → is_done (erasing cut).answer ≡ c.is_ok.result =
    λ cut. ap (λ (o : Stepped). is_done o.answer) (erased-is cut) ∙ sym c.is_ok.ensures.value in
    let fill-answer : (cut : Bool) → is_done (filling cut).answer ≡ c.is_ok-2.result =
    λ cut. ap (λ (o : Stepped). is_done o.answer) (filled_is cut) ∙ sym c.is_ok-2.ensures.value in
    let erase-done : (cut : Bool) → is_done (erasing cut).answer ≡ true = λ cut. erase-answer cut ∙ not-false c.is_ok.result c.if-not-is_ok.false-raw in
    λ cut.
    let a = c.args in
    let done = fill-answer cut ∙ not-false c.is_ok-2.result c.if-not-is_ok-2.false-raw in
    let shown = c.program.ensures (filling cut).flash.cut in
    rw (
      sector-headed a.sector a.seq records-of (first-flash cut) (erase-done cut) done,
      ap (λ (x : Stepped). x.flash) (filled_is cut),
      ← c.encode_header.ensures,
    )
    shown
