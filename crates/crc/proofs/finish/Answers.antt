-- `crc::finish` meets its contract.
use mathlib.Core.Path.{refl}
use Rattle.crc.specs.Register.{finished}
use Rattle.crc.proofs.finish.Goals as goal

pub returns : goal.returns
unfolding finished
returns c = refl
