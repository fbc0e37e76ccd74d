-- The result is whether the id is one of 1..8.
use native.Mathlib.Omega.{arith}
use borrow.Author.Tests.{le-leb, lt-leb}
use Rattle.ids.proofs.meanings.is_value.Goals as goal

pub returns-in-1-to-8 : goal.returns-in-1-to-8
returns-in-1-to-8 c = let d = c.args.id in rw (le-leb 1 d (omega arith), le-leb d 8 (omega arith))

pub returns-in_default : goal.returns-in_default
returns-in_default c = let d = c.args.id in rw (lt-leb 1 d (omega arith))

pub returns-in_default-2 : goal.returns-in_default-2
returns-in_default-2 c = let d = c.args.id in rw (le-leb 1 d (omega arith), lt-leb d 8 (omega arith))
