-- `bodies::anchors::anchor_of` meets its contract.
use mathlib.Core.Path.{ap₂, ◌∙◌}
use Prim.Native.Nat.{ℕ, ◌+◌, ◌*◌}
use native.Mathlib.Omega.{arith}
use Rattle.codec.proofs.SlotsOwned.{ten}
use Rattle.bodies.proofs.BodiesFields.{field, field6}
use Rattle.bodies.proofs.anchors.anchor_of.Goals as goal

pub returns : goal.returns
returns c =
    let gen-at = c in
    let low-at = gen-at in
    let start = low-at in
    let r = start.args.raw in
    let size = ten r start.well_formed.0 in
    let gen = gen-at.number2.ensures ∙ field r.body size 0 2 (omega arith) in
    let seq =
    c.joined.ensures
    ∙ ap₂ (λ (x y : ℕ). x + 4294967296 * y) low-at.number4-low.ensures gen-at.number4-high.ensures
    ∙ field6 r.body size in
    let slot = c.number2-2.ensures ∙ field r.body size 8 2 (omega arith) in
    λ i. record { format_gen = gen i; head_seq = seq i; head_slot = slot i }
