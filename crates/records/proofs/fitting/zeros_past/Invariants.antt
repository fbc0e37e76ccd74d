-- The bits met so far, and zeros from here on, say what the zeros of all places past the count say.
use mathlib.Core.Path.{◌≡◌}
use mathlib.Core.Bool.{◌&&◌}
use lib.Dec.{eqb}
use lib.ListN.{length, drop}
use Rattle.records.specs.Table.{limit}
use Rattle.records.specs.Fitting.{all_zeros}
use Rattle.records.proofs.fitting.zeros_past.Given as goal

abbrev pub invariant-loop-i : goal.invariant-loop-i
invariant-loop-i l =
    (length l.table ≡ limit) × ((eqb l.any 0 && all_zeros (drop l.i l.table)) ≡ all_zeros (drop l.count l.table))
