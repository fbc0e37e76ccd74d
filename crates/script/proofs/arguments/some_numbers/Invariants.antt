-- `script::arguments::some_numbers` meets its contract. The loop's invariant: no number so far is above its limit.
use mathlib.Core.Path.{◌≡◌}
use lib.ListN.{length}
use Rattle.script.specs.Limits.{Within}
use Rattle.script.proofs.arguments.some_numbers.Given as goal

abbrev pub invariant-loop-i : goal.invariant-loop-i
invariant-loop-i g l = (length l.numbers ≡ g.row.N) × Within l.numbers l.limit-items
