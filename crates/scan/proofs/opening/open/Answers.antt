-- `scan::opening::open` meets its contract.
use borrow.Author.Tests.{eq-eqb, ne_eqb}
use Rattle.scan.specs.Opening.{open_of}
use Rattle.scan.proofs.opening.open.Goals as goal

pub returns-then-sectors-eq0 : goal.returns-then-sectors-eq0
unfolding open_of
returns-then-sectors-eq0 c =
    rw (c.empty-none.ensures, ← c.sectors.ensures, eq-eqb _ _ c.if-sectors-eq0.true)

pub returns : goal.returns
unfolding open_of
returns c =
    rw (c.next_of.ensures, c.scan_region-r.ensures, ← c.sectors.ensures, ne_eqb _ _ c.if-sectors-eq0.false)
