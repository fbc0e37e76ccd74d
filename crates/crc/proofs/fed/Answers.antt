-- `crc::fed` meets its contract.
use Rattle.std.proofs.Common.{◌≡◌, suc, ◌+◌, ◌-◌, refl, arith}
use Rattle.crc.specs.Register.{turns, eat}
use Rattle.crc.proofs.fed.Goals as goal

pub loop-init : goal.loop-init
unfolding eat
loop-init c = refl

pub loop-preserved : goal.loop-preserved
unfolding turns
loop-preserved c =
    let left : 8 - c.loop.counter ≡ suc (8 - (c.loop.counter + 1)) = omega arith in
    rw c.turned-r.ensures (rw left at c.loop.invariant)

pub returns : goal.returns
unfolding turns
returns c =
    let none : 8 - c.loop.counter ≡ 0 = omega arith in
    rw none at c.loop.invariant
