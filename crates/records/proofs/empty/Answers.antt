-- `records::empty` meets its contract.
use Rattle.records.proofs.empty.Goals as goal

pub returns : goal.returns
returns c = rw c.empty_table-t.ensures
