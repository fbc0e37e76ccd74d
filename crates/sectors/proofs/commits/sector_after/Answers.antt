-- `sectors::commits::sector_after` meets its contract.
use borrow.Author.Tests.{eq-eqb, ne_eqb}
use Rattle.sectors.proofs.commits.sector_after.Goals as goal

pub returns-then-s-sectors : goal.returns-then-s-sectors
returns-then-s-sectors c = rw (eq-eqb _ _ c.if-s-sectors.true)

pub returns-else-s-sectors : goal.returns-else-s-sectors
returns-else-s-sectors c = rw (ne_eqb _ _ c.if-s-sectors.false)
