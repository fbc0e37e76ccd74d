-- `sectors::appends::append` meets its contract.
use Rattle.std.specs.Prelude.{Err}
use mathlib.Core.Path.{◌≡◌, refl, ap}
use mathlib.Core.Bool.{Bool, true}
use mathlib.Core.List.{List}
use Prim.Native.Nat.{◌+◌, ◌≤◌}
use native.Mathlib.Omega.{arith}
use lib.ListN.{take}
use Rattle.basics.specs.declared.Refusal.TheVariants.{WriteError}
use Rattle.codec.specs.declared.Raw.{Raw}
use Rattle.codec.specs.Slots.{slot_of}
use Rattle.flash.specs.Run.{Flash}
use Rattle.sectors.specs.Appends.{SlotTries, tries_from}
use Rattle.sectors.specs.Shown.{flash_with}
use Rattle.sectors.proofs.ShownLaws.{tries_are}
use Rattle.sectors.proofs.SectorsTurns.{after-within, append-full, append_tried}
use Rattle.sectors.proofs.SectorsCosts.{tries-within}
use Rattle.sectors.proofs.appends.append.Goals as goal

pub try_slots-w-requires : goal.try_slots-w-requires
try_slots-w-requires c = let p = c.requires in (p.high, omega (arith, p.active, p.sized), omega (arith, p.slots))

pub sector_after-first-requires : goal.sector_after-first-requires
sector_after-first-requires c = c.requires.active

pub commit-requires : goal.commit-requires
commit-requires c =
    let flash-of : Bool → Flash = λ cut. flash_with c.args.image.now c.args.used cut in
    let trying : Bool → SlotTries = λ cut. let a = c.args in tries_from 3 a.sector a.head (slot_of a.seq a.«record») (Err WriteError) (flash-of cut) in
    let shown_of : Bool → SlotTries = λ cut. record {
      full = c.try_slots-w.result.full;
      answer = c.try_slots-w.result.answer;
      head = c.try_slots-w.result.head;
      flash = flash_with c.try_slots-w.new.image c.try_slots-w.result.used (trying cut).flash.cut;
    } in
    let tried-is : (cut : Bool) → trying cut ≡ shown_of cut =
    λ cut. tries_are (trying cut) c.try_slots-w.result c.try_slots-w.new.image (rw c.encode.ensures at (c.try_slots-w.ensures cut)) in
    let cheap : let u = c.args.used in (c.try_slots-w.result.used.programmed ≤ u.programmed + 48) × (c.try_slots-w.result.used.erased ≤ u.erased) =
    let a = c.args in
    let most = tries-within 3 a.sector a.head (slot_of a.seq a.«record») (Err WriteError) (flash-of true) in (
      omega (arith, most.programmed, ap (λ (o : SlotTries). o.flash.programmed) (tried-is true)),
      omega (arith, most.erased, ap (λ (o : SlotTries). o.flash.erased) (tried-is true)),
    ) in
    let a = c.args in
    let p = c.requires in (
      record {
        few = p.few;
        sectors = p.sectors;
        sized = rw c.try_slots-w.auto.image p.sized;
        slots = omega (arith, cheap.0, p.slots);
        erases = omega (arith, cheap.1, p.erases);
      },
      rw c.sector_after-first.ensures (after-within a.sectors a.sector p.active),
    )

pub returns-then-w : goal.returns-then-w
returns-then-w c =
    let flash-of : Bool → Flash = λ cut. flash_with c.args.image.now c.args.used cut in
    let records-of : List Raw = take c.args.count c.args.table in
    let trying : Bool → SlotTries = λ cut. let a = c.args in tries_from 3 a.sector a.head (slot_of a.seq a.«record») (Err WriteError) (flash-of cut) in
    let shown_of : Bool → SlotTries = λ cut. record {
      full = c.try_slots-w.result.full;
      answer = c.try_slots-w.result.answer;
      head = c.try_slots-w.result.head;
      flash = flash_with c.try_slots-w.new.image c.try_slots-w.result.used (trying cut).flash.cut;
    } in
    let tried-is : (cut : Bool) → trying cut ≡ shown_of cut =
    λ cut. tries_are (trying cut) c.try_slots-w.result c.try_slots-w.new.image (rw c.encode.ensures at (c.try_slots-w.ensures cut)) in
    λ cut.
    let a = c.args in
    rw
    (append-full a.sectors a.sector a.seq a.head a.next_seq a.«record» records-of (flash-of cut)
    (shown_of cut) (tried-is cut) c.if-w.true)
    (rw c.sector_after-first.ensures at (c.commit.ensures (trying cut).flash.cut))

pub returns : goal.returns
returns c =
    let flash-of : Bool → Flash = λ cut. flash_with c.args.image.now c.args.used cut in
    let records-of : List Raw = take c.args.count c.args.table in
    let trying : Bool → SlotTries = λ cut. let a = c.args in tries_from 3 a.sector a.head (slot_of a.seq a.«record») (Err WriteError) (flash-of cut) in
    let shown_of : Bool → SlotTries = λ cut. record {
      full = c.try_slots-w.result.full;
      answer = c.try_slots-w.result.answer;
      head = c.try_slots-w.result.head;
      flash = flash_with c.try_slots-w.new.image c.try_slots-w.result.used (trying cut).flash.cut;
    } in
    let tried-is : (cut : Bool) → trying cut ≡ shown_of cut =
    λ cut. tries_are (trying cut) c.try_slots-w.result c.try_slots-w.new.image (rw c.encode.ensures at (c.try_slots-w.ensures cut)) in
    λ cut.
    let a = c.args in
    rw
    (append_tried a.sectors a.sector a.seq a.head a.next_seq a.«record» records-of (flash-of cut)
    (shown_of cut) (tried-is cut) c.if-w.false)
    (record { shown = refl; left = refl })
