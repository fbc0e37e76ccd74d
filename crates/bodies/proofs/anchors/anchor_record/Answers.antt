-- `bodies::anchors::anchor_record` meets its contract.
use Rattle.basics.specs.Little.{le_bytes}
use Rattle.bodies.specs.Bodies.{anchor_record}
use borrow.Author.Tests.{lt-ltb, le-ltb}
use Rattle.bodies.proofs.anchors.anchor_record.Goals as goal

pub returns-then-is_above : goal.returns-then-is_above
unfolding anchor_record
returns-then-is_above c = rw (lt-ltb _ _ c.if-is_above.true)

pub returns : goal.returns
unfolding anchor_record le_bytes
returns c =
    rw (
      le-ltb _ _ c.if-is_above.false,
      c.bytes2-g.ensures,
      c.bytes8-q.ensures,
      c.bytes2-s.ensures,
    )
