-- `replay::changes::changes` is safe and ends. The loop's invariant: the place lies in the image.
use Rattle.std.proofs.Common.{◌-◌, ◌≤◌, length}
use Rattle.replay.proofs.changes.changes.Given as goal

abbrev pub invariant-loop-from : goal.invariant-loop-from
invariant-loop-from g l = l.from ≤ length l.new

abbrev pub decreases-loop-from : goal.decreases-loop-from
decreases-loop-from g l = length l.new - l.from
