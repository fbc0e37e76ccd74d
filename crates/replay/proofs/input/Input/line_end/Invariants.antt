-- `replay::input::Input::line_end` is safe and ends. The loop's invariant: the place lies in what waits. Each turn more waits.
use Rattle.std.proofs.Common.{◌≤◌, ◌-◌}
use Rattle.replay.proofs.input.Input.line_end.Given as goal

abbrev pub invariant-loop-end : goal.invariant-loop-end
invariant-loop-end g l = (l.self.from ≤ l.end) × (l.end ≤ l.self.to)

abbrev pub decreases-loop-end : goal.decreases-loop-end
decreases-loop-end g l = 16385 - (l.self.to - l.self.from)
