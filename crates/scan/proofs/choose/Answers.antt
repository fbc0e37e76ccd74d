-- `scan::choose` meets its contract.
use mathlib.Core.Path.{◌≡◌, sym, ap, ◌∙◌}
use Prim.Native.Nat.{◌+◌, ◌-◌}
use native.Mathlib.Omega.{arith}
use Rattle.codec.specs.Slots.{header_of}
use Rattle.scan.specs.Choosing.{better, best_from, header_at}
use Rattle.scan.proofs.ChoosingLaws.{best_end, best_step}
use Rattle.scan.proofs.choose.Goals as goal

pub loop-s-init : goal.loop-s-init
loop-s-init c = let none : c.args.sectors - 0 ≡ c.args.sectors = omega arith in rw none

pub loop-s-preserved : goal.loop-s-preserved
loop-s-preserved c =
    let loop = c.loop-s in
    let a = c.args in
    let headers = header_at a.version a.image.now in
    let header_read = c.decode_header-h.ensures ∙ ap (header_of a.version) c.slot.ensures in
    ap (best_from (a.sectors - (loop.s + 1)) (loop.s + 1) headers) (c.better_of-best.ensures ∙ ap (better loop.best loop.s) header_read)
    ∙ sym (best_step headers loop.best a.sectors loop.s (omega arith))
    ∙ loop.invariant

pub returns : goal.returns
returns c =
    let loop = c.loop-s in
    let a = c.args in
    sym (best_end (header_at a.version a.image.now) loop.best a.sectors loop.s (omega arith)) ∙ loop.invariant
