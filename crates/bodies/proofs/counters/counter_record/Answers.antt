-- `bodies::counters::counter_record` meets its contract.
use Rattle.basics.specs.Little.{le_bytes}
use Rattle.bodies.proofs.counters.counter_record.Goals as goal

pub returns : goal.returns
unfolding le_bytes
returns c = rw (c.bytes4-t.ensures, c.bytes4-a.ensures)
