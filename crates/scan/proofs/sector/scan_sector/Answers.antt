-- `scan::sector::scan_sector` meets its contract.
use mathlib.Core.Path.{◌≡◌, refl, sym, ap, ap₂, ◌∙◌}
use mathlib.Core.Bool.{false}
use mathlib.Core.List.{List, []}
use Prim.Native.Nat.{ℕ, ◌≤◌, ◌<◌}
use native.Mathlib.Omega.{arith}
use lib.ListN.{get_or, take}
use borrow.Author.Tests.{not-true, not-false}
use Rattle.std.specs.Prelude.{Some}
use Rattle.basics.specs.Lists.{all_are}
use Rattle.codec.specs.declared.Raw.{Raw}
use Rattle.codec.specs.Slots.{crc_from, decoded_with, decoded}
use Rattle.codec.proofs.SlotsLaws.{decoded_from}
use Rattle.flash.specs.Image.{slot_at}
use Rattle.records.specs.declared.State.TheVariants.{Active}
use Rattle.records.specs.Table.{place_of, falls}
use Rattle.records.proofs.TableJoining.{nowhere}
use Rattle.records.proofs.LogsPlaces.{places_get}
use Rattle.scan.specs.Reading.{these}
use Rattle.scan.specs.Opening.{region_read}
use Rattle.scan.proofs.ReadingLaws.{pass, skip, replace, keep, add, full, place_found, read_end, head_end}
use Rattle.scan.proofs.sector.scan_sector.Goals as goal
use Rattle.scan.proofs.sector.scan_sector.Goals.{After-decode_from, In-Some, After-find-at, then-replaces, else-replaces}

pub loop-k-init : goal.loop-k-init
loop-k-init c = (
  c.under-start.ensures,
  record {
    found = [];
    size = refl;
    most = omega arith;
    standing = c.empty_table-table.ensures;
    tags_long = refl;
    ids_long = refl;
    tags_are = refl;
    ids_are = refl;
    low = omega arith;
    high = omega arith;
    rest = refl;
    heads = refl;
  },
)

pub loop-k-preserved-then-is_erased : goal.loop-k-preserved-then-is_erased
loop-k-preserved-then-is_erased c =
    let slots-of : ℕ → List ℕ = slot_at c.args.image.now c.args.sector in
    let erased-is : c.is_erased.result ≡ all_are 0xFF (slots-of c.loop-k.k) = c.is_erased.ensures ∙ ap (all_are 0xFF) c.slot-slot.ensures in (
      c.loop-k.invariant.0,
      pass _ _ _ _ _ _ _ _ c.loop-k.invariant.1 (omega arith) (sym erased-is ∙ c.if-is_erased.true),
    )

-- ---- a slot that isn't erased, and what was read from it
used : (c : After-decode_from) → all_are 0xFF (slot_at c.args.image.now c.args.sector c.loop-k.k) ≡ false
used c = sym (c.is_erased.ensures ∙ ap (all_are 0xFF) c.slot-slot.ensures) ∙ c.if-is_erased.false

decoded-is : (c : After-decode_from) → c.decode_from.result ≡ decoded c.args.seq (slot_at c.args.image.now c.args.sector c.loop-k.k)
decoded-is c =
    let slot = c.slot-slot.result.now in
    c.decode_from.ensures
    ∙ ap (λ (start : ℕ). decoded_with (crc_from start (take 12 slot)) slot) c.loop-k.invariant.0
    ∙ decoded_from c.args.seq slot
    ∙ ap (decoded c.args.seq) c.slot-slot.ensures

pub loop-k-preserved-in_default : goal.loop-k-preserved-in_default
loop-k-preserved-in_default c =
    let read = (goal.at.loop-k-preserved-in_default c).After-decode_from in (
      c.loop-k.invariant.0,
      skip _ _ _ _ _ _ _ _ c.loop-k.invariant.1 (omega arith) (used read) (sym (decoded-is read) ∙ c.in_default.is),
    )

pub slice_bounds-find-end : goal.slice_bounds-find-end
slice_bounds-find-end c = sym c.loop-k.invariant.1.tags_long

pub slice_bounds-find-end-in-loop-k : goal.slice_bounds-find-end-in-loop-k
slice_bounds-find-end-in-loop-k c = sym c.loop-k.invariant.1.ids_long

-- ---- a record, and the place of its key
record_is : (c : In-Some) → decoded c.args.seq (slot_at c.args.image.now c.args.sector c.loop-k.k) ≡ Some c.in-Some.r
record_is c = sym (decoded-is (goal.at.In-Some c).After-decode_from) ∙ c.in-Some.is

place_is : (c : After-find-at) → c.find-at.result ≡ place_of c.in-Some.r.tag c.in-Some.r.id c.loop-k.invariant.1.found
place_is c = c.find-at.ensures ∙ place_found _ _ _ _ _ _ _ _ c.loop-k.invariant.1 (omega arith) c.in-Some.r.tag c.in-Some.r.id

-- a record that is held already, as the table has it
held_is : (c : After-find-at) → c.find-at.result < c.loop-k.count → get_or c.loop-k.table c.find-at.result nowhere
    ≡ get_or c.loop-k.invariant.1.found (place_of c.in-Some.r.tag c.in-Some.r.id c.loop-k.invariant.1.found) nowhere
held_is c h =
    let held = c.loop-k.invariant.1 in
    let place = place_of c.in-Some.r.tag c.in-Some.r.id held.found in
    ap₂ (λ (l : List Raw) (n : ℕ). get_or l n nowhere) held.standing (place_is c)
    ∙ places_get held.found place nowhere (omega (arith, held.size, place_is c))

pub loop-k-preserved-then-at-count : goal.loop-k-preserved-then-at-count
loop-k-preserved-then-at-count c =
    let r = c.in-Some.r in
    let held = c.loop-k.invariant.1 in
    let found = (goal.at.loop-k-preserved-then-at-count c).After-find-at in
    let some = (goal.at.loop-k-preserved-then-at-count c).In-Some in
    let read = (goal.at.loop-k-preserved-then-at-count c).After-decode_from in
    let there : place_of r.tag r.id held.found < c.loop-k.count = omega (arith, place_is found, c.if-at-count.true) in
    let stands = get_or c.loop-k.table c.find-at.result nowhere in (
      c.loop-k.invariant.0,
      elim c.if-replaces.branch [
        | then-replaces w ↦
            rw (w.table-is, place_is found)
            (replace _ _ _ _ _ _ _ _ held (omega arith) (used read) r (record_is some) there
            (ap (falls r) (sym (held_is found c.if-at-count.true))
            ∙ not-true (falls r stands) (sym c.replaces.ensures ∙ w.if-replaces.true)))
        | else-replaces w ↦
            rw w.table-is
            (keep _ _ _ _ _ _ _ _ held (omega arith) (used read) r (record_is some) there
            (ap (falls r) (sym (held_is found c.if-at-count.true))
            ∙ not-false (falls r stands) (sym c.replaces.ensures ∙ w.if-replaces.false)))
      ],
    )

pub returns-then-is_full : goal.returns-then-is_full
returns-then-is_full c =
    let found = (goal.at.returns-then-is_full c).After-find-at in
    let some = (goal.at.returns-then-is_full c).In-Some in
    let read = (goal.at.returns-then-is_full c).After-decode_from in
    c.unreadable.ensures
    ∙ ap (region_read _ _ _)
    (sym (full _ _ _ _ _ _ _ _ c.loop-k.invariant.1 (omega arith) (used read) c.in-Some.r (record_is some)
    (omega (arith, place_is found, c.if-at-count.false)) c.if-is_full.true))

pub loop-k-preserved : goal.loop-k-preserved
loop-k-preserved c =
    let found = (goal.at.loop-k-preserved c).After-find-at in
    let some = (goal.at.loop-k-preserved c).In-Some in
    let read = (goal.at.loop-k-preserved c).After-decode_from in
    let held = c.loop-k.invariant.1 in (
      c.loop-k.invariant.0,
      add _ _ _ _ _ _ _ _ held (omega arith) (used read) c.in-Some.r (record_is some)
          (omega (arith, place_is found, c.if-at-count.false)) (omega (arith, held.most, c.if-is_full.false)),
    )

pub returns : goal.returns
returns c =
    let seq-of : ℕ = c.args.seq in
    let slots-of : ℕ → List ℕ = slot_at c.args.image.now c.args.sector in
    let s = c.loop-k.invariant.1 in
    let done : 256 ≤ c.loop-k.k = omega arith in
    let read = sym s.rest ∙ read_end seq-of slots-of c.loop-k.k (these s.found) done in
    let standing-back = sym s.standing in
    let headed = sym s.heads ∙ head_end seq-of slots-of c.loop-k.k c.loop-k.head done in
    sym
    (ap₂ (region_read c.args.sector seq-of) headed read
    ∙ (λ i. record { state = Active c.args.sector seq-of c.loop-k.head; count = s.size i; table = standing-back i }))
