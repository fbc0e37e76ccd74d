-- Std's test of a prefix is the definition's.
use mathlib.Core.Path.{◌∙◌}
use lib.ListN.{take}
use Rattle.basics.proofs.ListsLaws.{pointwise-same}
use Rattle.codec.specs.Slots.{magic}
use Rattle.codec.proofs.headers.has_magic.Goals as goal

pub returns : goal.returns
returns c = c.starts_with.ensures.value ∙ pointwise-same (take 4 c.args.slot.now) magic
