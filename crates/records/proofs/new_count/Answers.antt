-- `records::new_count` meets its contract.
use borrow.Author.Tests.{eq-eqb, ne_eqb}
use Rattle.records.proofs.new_count.Goals as goal

pub returns-then-at-count : goal.returns-then-at-count
returns-then-at-count c = rw (eq-eqb _ _ c.if-at-count.true)

pub returns-else-at-count : goal.returns-else-at-count
returns-else-at-count c = rw (ne_eqb _ _ c.if-at-count.false)
