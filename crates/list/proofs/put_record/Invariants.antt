-- `list::put_record` meets its contract. The loop's invariant: of the record's line all stands but the body's numbers from place b-index on.
use Rattle.text.proofs.TextPutting.{Begun}
use Rattle.list.specs.Listing.{record_line}
use Rattle.list.proofs.ListingLines.{line_from}
use Rattle.list.proofs.put_record.Given as goal

abbrev pub invariant-loop-b : goal.invariant-loop-b
invariant-loop-b l = Begun l.fn.out l.at (record_line l.fn.r) (line_from l.fn.r.body l.b-index) l.out l.to
