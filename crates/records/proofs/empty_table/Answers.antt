-- `records::empty_table` meets its contract.
use Rattle.records.proofs.empty_table.Goals as goal

pub returns : goal.returns
returns c = rw c.none-z.ensures
