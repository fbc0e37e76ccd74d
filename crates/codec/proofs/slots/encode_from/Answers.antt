-- `codec::slots::encode_from` meets its contract.
use Rattle.codec.specs.Slots.{crc_from}
use Rattle.codec.proofs.slots.encode_from.Goals as goal

pub returns : goal.returns
unfolding crc_from
returns c = rw (c.seal.ensures, c.finish.ensures, c.update.ensures, c.bytes-b.ensures)
