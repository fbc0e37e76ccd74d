-- `list::put_record` meets its contract.
use Rattle.codec.proofs.SlotsOwned.{ten}
use Rattle.text.proofs.TextPutting.{begun, room-left, piece_fits, next, last}
use Rattle.list.specs.Listing.{line}
use Rattle.list.proofs.ListingLines.{id_next, number_next, last_next}
use Rattle.list.proofs.put_record.Goals as goal

pub put_small-a-requires : goal.put_small-a-requires
unfolding line
put_small-a-requires c = piece_fits c.requires _ (line c.args.r.id c.args.r.body) (begun c.requires)

pub put_small-to-requires : goal.put_small-to-requires
put_small-to-requires c =
    let long = ten c.args.r c.well_formed.1.1.0 in
    piece_fits c.requires _ _ (id_next c.args.r long c.requires c.put_small-a.ensures)

pub loop-b-init : goal.loop-b-init
loop-b-init c =
    let long = ten c.args.r c.well_formed.1.1.0 in
    next c.requires (id_next c.args.r long c.requires c.put_small-a.ensures) c.put_small-to.ensures

pub put_small-to-requires-in-loop-b : goal.put_small-to-requires-in-loop-b
put_small-to-requires-in-loop-b c =
    let long = ten c.args.r c.well_formed.1.1.0 in
    piece_fits c.requires _ _ (number_next c.args.r long c.requires c.loop-b.b-index c.loop-b.invariant c.loop-b-test.true)

pub loop-b-preserved : goal.loop-b-preserved
loop-b-preserved c =
    let long = ten c.args.r c.well_formed.1.1.0 in
    next c.requires (number_next c.args.r long c.requires c.loop-b.b-index c.loop-b.invariant c.loop-b-test.true) c.put_small-to-in-loop-b.ensures

pub put_small-requires : goal.put_small-requires
put_small-requires c =
    let long = ten c.args.r c.well_formed.1.1.0 in
    room-left c.requires (last_next c.args.r long c.requires c.loop-b.b-index c.loop-b.invariant c.loop-b-test.false c.loop-b.auto.b-index-end)

pub returns : goal.returns
returns c =
    let long = ten c.args.r c.well_formed.1.1.0 in
    last c.requires
    (last_next c.args.r long c.requires c.loop-b.b-index c.loop-b.invariant c.loop-b-test.false c.loop-b.auto.b-index-end)
    c.put_small.ensures
