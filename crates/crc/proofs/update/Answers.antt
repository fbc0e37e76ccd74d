-- `crc::update` meets its contract.
use Rattle.std.proofs.Common.{sym, ◌∙◌, arith}
use Rattle.crc.proofs.RegisterRunning.{feed-step, feed_end}
use Rattle.crc.proofs.update.Goals as goal

pub loop-b-preserved : goal.loop-b-preserved
loop-b-preserved c = rw c.fed-s.ensures (sym (feed-step _ _ c.loop-b.b-index (omega arith)) ∙ c.loop-b.invariant)

pub returns : goal.returns
returns c = grind (arith, feed_end)
