-- `crc::start` meets its contract.
use mathlib.Core.Path.{refl}
use Rattle.crc.proofs.start.Goals as goal

pub returns : goal.returns
returns c = refl
