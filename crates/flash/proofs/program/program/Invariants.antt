-- `flash::program::program` meets its contract. The loop's invariant: the first i bytes have landed, and no other.
use Rattle.std.proofs.Common.{◌≡◌}
use Rattle.flash.specs.Run.{landed}
use Rattle.flash.proofs.program.program.Given as goal

abbrev pub invariant-loop-i : goal.invariant-loop-i
invariant-loop-i l = l.slot ≡ landed l.i l.bytes l.initial.slot
