-- The result is what is left of the allowance, or 0 where the total is below at-reset or more than the allowance is spent.
use native.Mathlib.Omega.{arith}
use Rattle.ids.proofs.IdsLaws.{remaining-below, remaining_from}
use Rattle.ids.proofs.CounterState.remaining.Goals as goal

pub returns-then-total-at_reset : goal.returns-then-total-at_reset
returns-then-total-at_reset c = omega (arith, remaining-below c.args.self (omega arith))

pub returns-then-allowance-spent : goal.returns-then-allowance-spent
returns-then-allowance-spent c = omega (arith, remaining_from c.args.self (omega arith))

pub returns : goal.returns
returns c = omega (arith, remaining_from c.args.self (omega arith))
