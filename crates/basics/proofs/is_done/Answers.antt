-- `basics::is_done` meets its contract: done is number 0.
use Rattle.std.proofs.Common.{arith}
use Rattle.basics.proofs.AnswersLaws.{done-number}
use Rattle.basics.proofs.is_done.Goals as goal

pub returns : goal.returns
returns c = grind (arith, done-number)
