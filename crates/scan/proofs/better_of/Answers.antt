-- `scan::better_of` meets its contract.
use mathlib.Core.Path.{sym}
use borrow.Author.Tests.{lt-ltb, le-ltb}
use Rattle.scan.proofs.ChoosingLaws.{better-none}
use Rattle.scan.proofs.better_of.Goals as goal

pub returns-in_default-None : goal.returns-in_default-None
returns-in_default-None c = let a = c.args in rw c.in_default-None.is-1 (sym (better-none a.best a.sector))

pub returns-in-None-Some : goal.returns-in-None-Some
returns-in-None-Some c = rw (c.in-None-Some.is-0, c.in-None-Some.is-1)

pub returns-then-most-seq : goal.returns-then-most-seq
returns-then-most-seq c = rw (c.in-Some-Some.is-0, c.in-Some-Some.is-1, lt-ltb _ _ c.if-most-seq.true)

pub returns-else-most-seq : goal.returns-else-most-seq
returns-else-most-seq c = rw (c.in-Some-Some.is-0, c.in-Some-Some.is-1, le-ltb _ _ c.if-most-seq.false)
