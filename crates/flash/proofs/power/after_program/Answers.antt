-- `flash::power::after_program` meets its contract.
use native.Mathlib.Omega.{arith}
use borrow.Author.Tests.{lt-ltb, le-ltb}
use Rattle.flash.proofs.power.after_program.Goals as goal

pub returns-then-refused-gt0 : goal.returns-then-refused-gt0
returns-then-refused-gt0 c = rw (lt-ltb 0 c.args.plan.refuse_programs (omega arith))

pub returns : goal.returns
returns c = rw (le-ltb 0 c.args.plan.refuse_programs (omega arith)) c.charge.ensures
