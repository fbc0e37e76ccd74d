-- `codec::checksum::check12` meets its contract.
use Rattle.codec.specs.Slots.{crc_from}
use Rattle.codec.proofs.checksum.check12.Goals as goal

pub returns : goal.returns
unfolding crc_from
returns c = rw (c.finish.ensures, c.update.ensures)
