-- `decisions::seeds::seed_table` meets its contract.
use mathlib.Core.Path.{◌≡◌, sym, ap, ap₂, ◌∙◌}
use mathlib.Core.List.{List, []}
use Prim.Native.Nat.{ℕ, ◌+◌}
use native.Mathlib.Omega.{arith}
use lib.ListN.{set, drop, take, length}
use lib.Seq.{length-take-le}
use Rattle.codec.specs.declared.Raw.{Raw}
use Rattle.records.specs.Table.{place_of, joined, new_count}
use Rattle.records.specs.Logs.{places}
use Rattle.records.proofs.TableFinding.{place-most}
use Rattle.records.proofs.LogsPlaces.{places-take}
use Rattle.records.proofs.TableStoring.{stored, new_count_most}
use Rattle.decisions.specs.Seeds.{seeded, seeded_of}
use Rattle.decisions.proofs.SeedsLaws.{seeded_end, seeded-turn}
use Rattle.decisions.proofs.seeds.seed_table.Goals as goal

-- a key's place in the table so far
place_in : (r : Raw) (t table : List Raw) (n p : ℕ) → table ≡ places t → n ≡ length t → p ≡ place_of r.tag r.id (take n table)
    → p ≡ place_of r.tag r.id t
place_in r t table n p placed counted e = e ∙ ap (place_of r.tag r.id) (ap₂ take counted placed ∙ places-take t)

pub offset_bounds-table-at : goal.offset_bounds-table-at
offset_bounds-table-at c =
    let r = c.counter_record-r.result in
    let inv = c.loop-s.invariant in
    let size = length-take-le c.args.count c.args.seeds (omega (arith, c.requires, c.well_formed.0.1.0.1)) in
    let here = place_in r inv.t c.loop-s.table c.loop-s.n c.place-at.result inv.placed inv.counted c.place-at.ensures in
    omega (arith, size, here, place-most r.tag r.id inv.t, inv.counted, inv.few, c.requires, c.loop-s-test.true)

pub bounds-table-at : goal.bounds-table-at
bounds-table-at c =
    let r = c.counter_record-r.result in
    let inv = c.loop-s.invariant in
    let size = length-take-le c.args.count c.args.seeds (omega (arith, c.requires, c.well_formed.0.1.0.1)) in
    let here = place_in r inv.t c.loop-s.table c.loop-s.n c.place-at.result inv.placed inv.counted c.place-at.ensures in
    omega (arith, size, here, place-most r.tag r.id inv.t, inv.counted, inv.few, c.requires, c.loop-s-test.true)

pub loop-s-preserved : goal.loop-s-preserved
loop-s-preserved c =
    let seeds = take c.args.count c.args.seeds in
    let r = c.counter_record-r.result in
    let inv = c.loop-s.invariant in
    let size = length-take-le c.args.count c.args.seeds (omega (arith, c.requires, c.well_formed.0.1.0.1)) in
    let here = place_in r inv.t c.loop-s.table c.loop-s.n c.place-at.result inv.placed inv.counted c.place-at.ensures in
    let made = stored r inv.t (omega (arith, size, here, place-most r.tag r.id inv.t, inv.counted, inv.few, c.requires, c.loop-s-test.true)) in
    record {
      t = joined r inv.t;
      placed = ap₂ (λ (x : List Raw) (k : ℕ). set x k r) inv.placed here ∙ made.0;
      counted = c.new_count-n.ensures ∙ ap₂ new_count inv.counted here ∙ made.1;
      few = omega (arith, c.new_count-n.ensures, new_count_most c.loop-s.n c.place-at.result, inv.few);
      rest =
          ap (λ (x : Raw). seeded (drop (c.loop-s.s-index + 1) seeds) (joined x inv.t)) c.counter_record-r.ensures
          ∙ sym (seeded-turn seeds c.loop-s.s-index inv.t c.loop-s-test.true)
          ∙ inv.rest;
    }

pub returns : goal.returns
returns c =
    let seeds = take c.args.count c.args.seeds in
    let inv = c.loop-s.invariant in
    let whole : inv.t ≡ seeded seeds [] = sym (seeded_end seeds c.loop-s.s-index inv.t c.loop-s-test.false) ∙ inv.rest in
    ap₂ (λ (n : ℕ) (t : List Raw). record { count = n; table = t }) inv.counted inv.placed ∙ ap seeded_of whole
