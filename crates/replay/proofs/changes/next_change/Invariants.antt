-- `replay::changes::next_change` is safe and ends. The loop's invariant: the place lies behind `from`, and in the image.
use Rattle.std.proofs.Common.{◌-◌, ◌≤◌, length}
use Rattle.replay.proofs.changes.next_change.Given as goal

abbrev pub invariant-loop-at : goal.invariant-loop-at
invariant-loop-at l = (l.from ≤ l.at) × (l.at ≤ length l.new)

abbrev pub decreases-loop-at : goal.decreases-loop-at
decreases-loop-at l = length l.new - l.at
