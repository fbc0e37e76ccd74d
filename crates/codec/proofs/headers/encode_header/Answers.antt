-- `codec::headers::encode_header` meets its contract.
use Rattle.codec.specs.Slots.{header_slot}
use Rattle.codec.proofs.headers.encode_header.Goals as goal

pub returns : goal.returns
unfolding header_slot
returns c = rw (c.seal.ensures, c.crc32.ensures, c.header_bytes-b.ensures)
