-- `host::requests::Request::program` meets its contract.
use mathlib.Core.Path.{ap}
use lib.ListN.{replicate}
use Rattle.decisions.specs.declared.seeds.Seed.{Seed}
use Rattle.host.specs.declared.requests.Kind.TheVariants.{Program}
use Rattle.host.proofs.requests.Request.program.Goals as goal

pub returns : goal.returns
returns c =
    let a = c.args in
    ap (λ (s : Seed). record { kind = Program a.sector a.slot; seeds = replicate 8 s; bytes = a.bytes }) c.no_seed-z.ensures
