-- `crc::update` meets its contract. The loop's invariant: feeding what is left to the register as it stands gives the whole.
use Rattle.std.proofs.Common.{◌≡◌, drop}
use Rattle.crc.specs.Register.{feed}
use Rattle.crc.proofs.update.Given as goal

abbrev pub invariant-loop-b : goal.invariant-loop-b
invariant-loop-b l = feed l.s (drop l.b-index l.bytes) ≡ feed l.fn.state l.fn.bytes
