-- `list::put_records` meets its contract. The loop's invariant: all lines stand but those from place r-index on.
use Rattle.std.proofs.Common.{take, drop}
use Rattle.text.proofs.TextPutting.{Begun}
use Rattle.list.specs.Listing.{record_lines}
use Rattle.list.proofs.put_records.Given as goal

abbrev pub invariant-loop-r : goal.invariant-loop-r
invariant-loop-r l =
    Begun l.fn.out l.at (record_lines (take l.count l.fn.table)) (record_lines (drop l.r-index l.r-items)) l.out l.to
