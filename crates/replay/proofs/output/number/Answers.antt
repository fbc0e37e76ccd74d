-- `replay::output::number` is safe: a number has at most twenty digits.
use Rattle.std.proofs.Common.{arith}
use Rattle.text.proofs.TextDecimal.{decimal-short}
use Rattle.replay.proofs.output.number.Goals as goal

pub put_decimal-end-requires : goal.put_decimal-end-requires
put_decimal-end-requires g c = omega (arith, decimal-short 20 c.args.x (omega arith) (omega (arith, c.ranges.x.fits)))
