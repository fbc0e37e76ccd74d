-- `crc::crc32_ieee` meets its contract.
use Rattle.basics.proofs.ListsLaws.{bytes-all}
use Rattle.crc.proofs.IeeeCheck.{crc_check}
use Rattle.crc.proofs.crc32_ieee.Goals as goal

pub returns : goal.returns
returns c =
    let bytes = c.args.bytes.now in
    rw c.crc32.ensures (crc_check bytes (bytes-all bytes (λ i. (c.type_inv.bytes i).fits)))
