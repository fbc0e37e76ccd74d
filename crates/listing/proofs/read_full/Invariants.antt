-- `listing::read_full` is safe and ends. The loop's invariant: what is read lies in the buffer.
use Rattle.std.proofs.Common.{◌-◌, ◌≤◌, length}
use Rattle.listing.proofs.read_full.Given as goal

abbrev pub invariant-loop-done : goal.invariant-loop-done
invariant-loop-done g l = l.done ≤ length l.initial.buffer

abbrev pub decreases-loop-done : goal.decreases-loop-done
decreases-loop-done g l = length l.initial.buffer - l.done
