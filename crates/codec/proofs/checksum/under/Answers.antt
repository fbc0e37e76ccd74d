-- `codec::checksum::under` meets its contract.
use Rattle.codec.specs.Slots.{seq_fed}
use Rattle.codec.proofs.checksum.under.Goals as goal

pub returns : goal.returns
unfolding seq_fed
returns c = rw (c.update_word.ensures, c.start.ensures)
