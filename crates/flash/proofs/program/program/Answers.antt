-- `flash::program::program` meets its contract.
use Rattle.std.proofs.Common.{◌≡◌, length, sym, arith}
use Rattle.flash.proofs.RunLanding.{landed_none, landed-step}
use Rattle.flash.proofs.program.program.Goals as goal

pub loop-i-init : goal.loop-i-init
loop-i-init c = sym (landed_none c.args.bytes c.args.slot.now)

pub loop-i-preserved : goal.loop-i-preserved
loop-i-preserved c =
    let i = c.loop-i.i in
    let sixteen : length c.args.bytes ≡ 16 = c.well_formed.1.0.1.0.1 in
    rw c.loop-i.invariant (landed-step i c.args.bytes c.args.slot.now (omega (arith, sixteen)) (omega arith))
