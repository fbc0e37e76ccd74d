-- `codec::is_erased` meets its contract.
use mathlib.Core.Path.{sym, ap, ◌∙◌}
use mathlib.Core.Bool.{Bool, ◌&&◌, and-true, and_assoc}
use Prim.Native.Nat.{◌+◌}
use native.Mathlib.Omega.{arith}
use lib.Bits.{and_le_l}
use lib.Dec.{eqb}
use lib.ListN.{drop, get_or}
use Rattle.basics.specs.Lists.{all_are}
use Rattle.basics.proofs.ListsLaws.{all-step, all_end}
use Rattle.codec.proofs.SlotsLaws.{and-full}
use Rattle.codec.proofs.is_erased.Goals as goal

pub loop-b-preserved : goal.loop-b-preserved
loop-b-preserved c =
    let loop = c.loop-b in
    let bytes = c.args.bytes.now in
    let b = get_or bytes loop.b-index 0 in
    let rest = all_are 0xFF (drop (loop.b-index + 1) bytes) in (
      omega (arith, and_le_l loop.all b),
      ap (λ (t : Bool). t && rest) (and-full loop.all b loop.invariant.0 (c.type_inv.bytes loop.b-index).fits)
          ∙ and_assoc (eqb loop.all 0xFF) (eqb b 0xFF) rest
          ∙ ap (λ (t : Bool). eqb loop.all 0xFF && t) (sym (all-step 0xFF bytes loop.b-index (omega arith)))
          ∙ loop.invariant.1,
    )

pub returns : goal.returns
returns c =
    let loop = c.loop-b in
    sym (and-true (eqb loop.all 0xFF))
    ∙ ap (λ (t : Bool). eqb loop.all 0xFF && t) (sym (all_end 0xFF c.args.bytes.now loop.b-index (omega arith)))
    ∙ loop.invariant.1
