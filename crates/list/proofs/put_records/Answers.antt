-- `list::put_records` meets its contract.
use Rattle.records.proofs.TableJoining.{nowhere}
use Rattle.text.proofs.TextPutting.{piece_fits, next, ended}
use Rattle.list.proofs.ListingLines.{lines_step, lines_end}
use Rattle.list.proofs.put_records.Goals as goal

pub put_record-to-requires : goal.put_record-to-requires
put_record-to-requires c =
    let here = lines_step _ c.loop-r.r-index nowhere c.loop-r-test.true in
    piece_fits c.requires.1 _ _ (rw here at c.loop-r.invariant)

pub loop-r-preserved : goal.loop-r-preserved
loop-r-preserved c =
    let here = lines_step _ c.loop-r.r-index nowhere c.loop-r-test.true in
    next c.requires.1 (rw here at c.loop-r.invariant) c.put_record-to.ensures

pub returns : goal.returns
returns c = ended c.requires.1 (rw (lines_end _ c.loop-r.r-index c.loop-r-test.false) at c.loop-r.invariant)
