-- `codec::checksum::carried` meets its contract.
use mathlib.Core.Path.{ap, ◌∙◌}
use Rattle.basics.proofs.ListsLaws.{read-part}
use native.Mathlib.Omega.{arith}
use Rattle.basics.specs.Little.{le_number}
use Rattle.codec.proofs.checksum.carried.Goals as goal

pub returns : goal.returns
returns c =
    c.number4.ensures ∙ ap le_number (read-part 4 12 c.args.slot.now (omega (arith, c.requires)))
