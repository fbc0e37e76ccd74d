-- `scan::next_of` meets its contract.
use native.Mathlib.Omega.{arith}
use Rattle.scan.proofs.next_of.Goals as goal

pub returns-in-Active : goal.returns-in-Active
returns-in-Active c = rw c.in-Active.is (omega (arith, c.saturating_add.ensures))
