-- The bits met so far, and zeros from here on, say what the zeros of all places past the count say.
use mathlib.Core.Path.{refl, sym, ap, ◌∙◌}
use mathlib.Core.Bool.{Bool, ◌&&◌, and-true}
use native.Mathlib.Omega.{arith}
use lib.Dec.{eqb}
use Rattle.records.proofs.FittingZeros.{zeros_end, zeros-turn}
use Rattle.records.proofs.fitting.zeros_past.Goals as goal

pub loop-i-init : goal.loop-i-init
loop-i-init c = (c.well_formed.0.1.0.1, refl)

pub loop-i-preserved : goal.loop-i-preserved
loop-i-preserved c =
    let loop = c.loop-i in
    let table = c.args.table in
    (loop.invariant.0, zeros-turn table loop.i loop.any c.bits_of-any.result (omega arith) c.bits_of-any.ensures ∙ loop.invariant.1)

pub returns : goal.returns
returns c =
    let loop = c.loop-i in
    let table = c.args.table in
    sym (and-true (eqb loop.any 0))
    ∙ ap (λ (t : Bool). eqb loop.any 0 && t) (sym (zeros_end table loop.i (omega arith)))
    ∙ loop.invariant.1
