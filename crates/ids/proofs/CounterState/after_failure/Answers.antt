-- After a failure the total is one more, or the answer is WriteError where it cannot be.
use mathlib.Core.Path.{sym}
use native.Mathlib.Omega.{arith}
use Rattle.basics.proofs.SaysLaws.{and_says}
use Rattle.basics.specs.Says.{result_says}
use Rattle.ids.proofs.IdsLaws.{failed-full, failed_more, failed-says}
use Rattle.ids.proofs.CounterState.after_failure.Goals as goal

pub returns-then-self-eq-TOTAL_MAX : goal.returns-then-self-eq-TOTAL_MAX
returns-then-self-eq-TOTAL_MAX c = let s = c.args.self in and_says result_says (failed-says s) (sym (failed-full s (omega arith)))

pub returns : goal.returns
returns c = let s = c.args.self in and_says result_says (failed-says s) (sym (failed_more s c.if-self-eq-TOTAL_MAX.false))
