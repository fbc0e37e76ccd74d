-- `flash::program::reads_back` meets its contract.
use mathlib.Core.Path.{◌≡◌, sym, ap, ◌∙◌}
use mathlib.Core.Bool.{Bool, ◌&&◌, and-true, and_assoc}
use Prim.Native.Nat.{◌+◌}
use native.Mathlib.Omega.{arith}
use lib.Dec.{eqb}
use lib.ListN.{length, drop, get_or}
use Rattle.basics.specs.Lists.{same}
use Rattle.flash.proofs.RunComparing.{differ_none, same_step, same_end}
use Rattle.flash.proofs.program.reads_back.Goals as goal

pub loop-i-preserved : goal.loop-i-preserved
loop-i-preserved c =
    let sixteen : length c.args.bytes ≡ 16 = c.well_formed.1.0.1.0.1 in
    let loop = c.loop-i in
    let slot = c.args.slot.now in
    let bytes = c.args.bytes in
    let equal = eqb (get_or slot loop.i 0) (get_or bytes loop.i 0) in
    let rest = same (drop (loop.i + 1) slot) (drop (loop.i + 1) bytes) in
    ap (λ (t : Bool). t && rest) (differ_none loop.differ (get_or slot loop.i 0) (get_or bytes loop.i 0))
    ∙ and_assoc (eqb loop.differ 0) equal rest
    ∙ ap (λ (t : Bool). eqb loop.differ 0 && t) (sym (same_step slot bytes loop.i (omega arith) (omega (arith, sixteen))))
    ∙ loop.invariant

pub returns : goal.returns
returns c =
    let sixteen : length c.args.bytes ≡ 16 = c.well_formed.1.0.1.0.1 in
    let loop = c.loop-i in
    sym (and-true (eqb loop.differ 0))
    ∙ ap (λ (t : Bool). eqb loop.differ 0 && t)
    (sym (same_end c.args.slot.now c.args.bytes loop.i (omega arith) (omega (arith, sixteen))))
    ∙ loop.invariant
