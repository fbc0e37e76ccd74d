-- `crc::fed` meets its contract. The loop's invariant: the turns that are left, of the register as it stands, give the whole.
use Rattle.std.proofs.Common.{◌≡◌, ◌-◌}
use Rattle.crc.specs.Register.{turns, eat}
use Rattle.crc.proofs.fed.Given as goal

abbrev pub invariant-loop : goal.invariant-loop
invariant-loop l = turns (8 - l.counter) l.r ≡ eat l.s l.b
