-- `flash::power::to_program` meets its contract.
use native.Mathlib.Omega.{arith}
use borrow.Author.Tests.{lt-ltb, le-ltb}
use Rattle.flash.proofs.power.to_program.Goals as goal

pub returns-then-plan-gt0 : goal.returns-then-plan-gt0
returns-then-plan-gt0 c = rw (lt-ltb 0 c.args.plan.refuse_programs (omega arith))

pub returns : goal.returns
returns c = rw (le-ltb 0 c.args.plan.refuse_programs (omega arith)) c.power_for.ensures
