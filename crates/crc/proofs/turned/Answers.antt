-- `crc::turned` meets its contract.
use mathlib.Core.Path.{refl}
use Rattle.crc.specs.Register.{turn}
use Rattle.crc.proofs.turned.Goals as goal

pub returns : goal.returns
unfolding turn
returns c = refl
