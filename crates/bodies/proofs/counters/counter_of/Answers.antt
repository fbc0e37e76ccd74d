-- `bodies::counters::counter_of` meets its contract.
use lib.ListN.{get_or}
use mathlib.Core.Path.{ap₂, ◌∙◌}
use Prim.Native.Nat.{ℕ}
use native.Mathlib.Omega.{arith}
use Rattle.codec.proofs.SlotsOwned.{ten}
use Rattle.bodies.proofs.BodiesFields.{field}
use Rattle.bodies.proofs.counters.counter_of.Goals as goal

pub returns : goal.returns
returns c =
    let s0 = c in
    let r = s0.args.raw in
    let size = ten r s0.well_formed.0 in
    ap₂ (λ (x y : ℕ). record { total = x; at_reset = y; allowance = get_or r.body 0 0 })
    (c.number4.ensures ∙ field r.body size 2 4 (omega arith)) (c.number4-2.ensures ∙ field r.body size 6 4 (omega arith))
