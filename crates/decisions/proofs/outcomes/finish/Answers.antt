-- `decisions::outcomes::finish` meets its contract.
use Rattle.decisions.specs.Ready.{finished_of}
use Rattle.decisions.proofs.outcomes.finish.Goals as goal

pub returns-in-Ok : goal.returns-in-Ok
unfolding finished_of
returns-in-Ok c = rw c.in-Ok.is c.answered.ensures

pub returns-in-Err : goal.returns-in-Err
unfolding finished_of
returns-in-Err c = rw c.in-Err.is c.answered-in-Err.ensures
