-- `decisions::seeds::has_key` meets its contract.
use borrow.Author.Tests.{eq-eqb, ne_eqb}
use Rattle.decisions.proofs.seeds.has_key.Goals as goal

pub returns-then-r-tag : goal.returns-then-r-tag
returns-then-r-tag c = rw (ne_eqb _ _ c.if-r-tag.true)

pub returns : goal.returns
returns c = rw (eq-eqb _ _ c.if-r-tag.false)
