-- `decisions::actions::write_record` meets its contract.
use mathlib.Core.Path.{◌≡◌, sym, ap, ap₂, subst, ◌∙◌}
use mathlib.Core.List.{List}
use Prim.Native.Nat.{ℕ}
use native.Mathlib.Omega.{arith}
use lib.ListN.{length, set, take}
use Rattle.codec.specs.declared.Raw.{Raw}
use Rattle.records.specs.declared.Log.{Log}
use Rattle.records.specs.Table.{place_of, joined, new_count}
use Rattle.records.specs.Logs.{places, records_of}
use Rattle.records.proofs.LogsPlaces.{places-take}
use Rattle.records.proofs.TableStoring.{stored, new-most}
use Rattle.records.proofs.LogsOwned.{whole-log}
use Rattle.records.proofs.FittingLaws.{fits_clauses, fits-active, records_length, log_is}
use Rattle.sectors.specs.Commits.{Written}
use Rattle.sectors.specs.Appends.{append_of}
use Rattle.sectors.specs.Shown.{flash_with, ShowsWrote}
use Rattle.decisions.proofs.ReadyFinish.{finished}
use Rattle.decisions.proofs.actions.write_record.Goals as goal

pub new_count-count-requires : goal.new_count-count-requires
new_count-count-requires c = (fits_clauses c.args.sectors c.args.log c.requires.0.fits).few

pub append-w-requires : goal.append-w-requires
append-w-requires c =
    let a = c.args in
    let room = c.requires.0 in
    let active = fits-active a.sectors a.log room.fits a.sector a.seq a.head c.requires.1 in
    record {
      few = rw c.new_count-count.ensures (new-most a.log.count a.at (fits_clauses a.sectors a.log room.fits).few c.requires.2.free);
      sectors = room.few;
      sized = room.sized;
      active = active.within;
      high = active.high;
      slots = room.slots;
      erases = room.erases;
    }

pub returns : goal.returns
returns c =
    let before : List Raw = records_of c.args.log in
    let after : List Raw = joined c.args.rec before in
    let counted : c.args.log.count ≡ length before =
    sym (records_length c.args.log (whole-log c.args.log c.well_formed.1.0) c.args.sectors c.requires.0.fits) in
    let tabled : c.args.log.table ≡ places before =
    ap (λ (l : Log). l.table) (log_is c.args.log (whole-log c.args.log c.well_formed.1.0) c.args.sectors c.requires.0.fits) in
    let placed : ℕ = place_of c.args.rec.tag c.args.rec.id before in
    let made : (set (places before) placed c.args.rec ≡ places after) × (new_count (length before) placed ≡ length after) =
    stored c.args.rec before (omega (arith, c.requires.2.place, c.requires.2.free)) in
    let new-table : set c.args.log.table c.args.at c.args.rec ≡ places after =
    ap₂ (λ (t : List Raw) (k : ℕ). set t k c.args.rec) tabled c.requires.2.place ∙ made.0 in
    let new-count : new_count c.args.log.count c.args.at ≡ length after = ap₂ new_count counted c.requires.2.place ∙ made.1 in
    λ cut.
    let a = c.args in
    let count = c.new_count-count.ensures ∙ new-count in
    let records : take c.new_count-count.result (set a.log.table a.at a.rec) ≡ after =
    ap₂ take count new-table ∙ places-take after in
    let wrote : List Raw → Written =
    λ (t : List Raw).
    append_of a.sectors a.sector a.seq a.head a.log.next_seq a.rec t (flash_with a.image.now a.used cut) in
    let shown = subst (λ (t : List Raw). ShowsWrote (wrote t) c.append-w.result c.append-w.new.image) records (c.append-w.ensures cut) in
    record {
      answered =
          c.finish.ensures
          ∙ finished (wrote after) c.append-w.result a.value a.log after before (set a.log.table a.at a.rec)
          c.new_count-count.result shown.shown new-table count tabled counted;
      left = shown.left;
    }
