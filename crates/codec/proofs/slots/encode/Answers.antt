-- `codec::slots::encode` meets its contract.
use Rattle.codec.specs.Slots.{slot_of}
use Rattle.codec.proofs.SlotsLaws.{from_under}
use Rattle.codec.proofs.slots.encode.Goals as goal

pub returns : goal.returns
unfolding slot_of
returns c = rw (c.encode_from.ensures, c.under.ensures, from_under)
