-- `tries::remaining` meets its contract.
use Rattle.std.proofs.Common.{rules, arith}
use Rattle.basics.proofs.SaysLaws.{and_says}
use Rattle.basics.specs.Says.{option_says}
use Rattle.tries.proofs.TriesSays.{tries-left_says, left_held, left_refused}
use Rattle.tries.proofs.remaining.Goals as goal

pub returns-in_err-held : goal.returns-in_err-held
returns-in_err-held c = and_says option_says (tries-left_says c.args.log c.args.credential) (grind (arith, left_refused))

pub returns : goal.returns
returns c = and_says option_says (tries-left_says c.args.log c.args.credential) (search (rules, left_held))
