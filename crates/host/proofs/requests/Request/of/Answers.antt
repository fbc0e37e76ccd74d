-- `host::requests::Request::of` meets its contract.
use mathlib.Core.Path.{ap}
use lib.ListN.{replicate}
use Rattle.decisions.specs.declared.seeds.Seed.{Seed}
use Rattle.host.proofs.requests.Request.of.Goals as goal

pub returns : goal.returns
returns c = ap (λ (s : Seed). record { kind = c.args.kind; seeds = replicate 8 s; bytes = replicate 16 0 }) c.no_seed-z.ensures
