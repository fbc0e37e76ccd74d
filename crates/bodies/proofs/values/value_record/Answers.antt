-- `bodies::values::value_record` meets its contract.
use Rattle.basics.specs.Little.{le_bytes}
use Rattle.bodies.proofs.values.value_record.Goals as goal

pub returns : goal.returns
unfolding le_bytes
returns c = rw c.bytes8-b.ensures
