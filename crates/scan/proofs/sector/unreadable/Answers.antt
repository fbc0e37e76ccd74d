-- `scan::sector::unreadable` meets its contract.
use Rattle.scan.proofs.sector.unreadable.Goals as goal

pub returns : goal.returns
returns c = rw c.empty_table-t.ensures
