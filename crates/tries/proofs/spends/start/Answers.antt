-- `tries::spends::start` meets its contract.
use Rattle.tries.specs.Tries.{start_of}
use Rattle.tries.proofs.spends.start.Goals as goal

pub returns-in-Some : goal.returns-in-Some
unfolding start_of
returns-in-Some c = rw c.in-Some.is c.counter_of.ensures

pub returns-in-None : goal.returns-in-None
unfolding start_of
returns-in-None c = rw c.in-None.is c.fresh.ensures
