-- `host::requests::no_seed` meets its contract.
use Rattle.host.proofs.requests.no_seed.Goals as goal

pub returns : goal.returns
returns c i = record { credential = 0; state = c.fresh-state.ensures i }
