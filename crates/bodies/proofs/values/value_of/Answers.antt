-- `bodies::values::value_of` meets its contract.
use mathlib.Core.Path.{ap₂, ◌∙◌}
use Prim.Native.Nat.{ℕ, ◌+◌, ◌*◌}
use Rattle.codec.proofs.SlotsOwned.{ten}
use Rattle.bodies.proofs.BodiesFields.{field8}
use Rattle.bodies.proofs.values.value_of.Goals as goal

pub returns : goal.returns
returns c =
    let s0 = c in
    let r = s0.args.raw in
    c.joined.ensures
    ∙ ap₂ (λ (x y : ℕ). x + 4294967296 * y) c.number4-low.ensures c.number4-high.ensures
    ∙ field8 r.body (ten r s0.well_formed.0)
