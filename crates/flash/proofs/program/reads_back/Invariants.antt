-- `flash::program::reads_back` meets its contract. The loop's invariant: nothing differed yet, and what is left is the same, just where the whole is.
use mathlib.Core.Path.{◌≡◌}
use mathlib.Core.Bool.{◌&&◌}
use lib.Dec.{eqb}
use lib.ListN.{drop}
use Rattle.basics.specs.Lists.{same}
use Rattle.flash.proofs.program.reads_back.Given as goal

abbrev pub invariant-loop-i : goal.invariant-loop-i
invariant-loop-i l = eqb l.differ 0 && same (drop l.i l.slot) (drop l.i l.bytes) ≡ same l.slot l.bytes
