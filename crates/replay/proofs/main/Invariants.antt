-- `replay::main` is safe and ends. The loop's invariant: the images lie in their buffers.
use Rattle.std.proofs.Common.{◌≡◌, length}
use Rattle.replay.specs.Limits.{Sound}
use Rattle.replay.proofs.main.Given as goal

abbrev pub invariant-loop-number : goal.invariant-loop-number
invariant-loop-number l = Sound l.session × (length l.image ≡ 65536) × (length l.saved ≡ 65536) × (length l.before ≡ 65536)
