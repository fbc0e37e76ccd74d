-- `codec::slots::decode` meets its contract.
use Rattle.codec.specs.Slots.{decoded}
use Rattle.codec.proofs.SlotsLaws.{from_under}
use Rattle.codec.proofs.slots.decode.Goals as goal

pub returns : goal.returns
unfolding decoded
returns c = rw (c.decode_from.ensures, c.under.ensures, from_under)
