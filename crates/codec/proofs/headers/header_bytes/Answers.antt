-- `codec::headers::header_bytes` meets its contract.
use Rattle.basics.specs.Little.{le_bytes}
use Rattle.codec.proofs.headers.header_bytes.Goals as goal

pub returns : goal.returns
unfolding le_bytes
returns c = rw c.bytes4-s.ensures
