-- The records passed fit, the marks and the two lists stand for their keys, and the place and record are those of the key among them.
use mathlib.Core.Path.{◌≡◌}
use Prim.Native.Nat.{◌-◌}
use lib.ListN.{length, take}
use Rattle.records.proofs.SurveysLaws.{Surveying}
use Rattle.records.proofs.survey.survey.Given as goal

abbrev pub invariant-loop-i : goal.invariant-loop-i
invariant-loop-i l =
    (length (take l.count l.table) ≡ l.count) × Surveying l.tag l.id (take l.count l.table) l.met l.tags l.ids l.at l.held l.i

abbrev pub decreases-loop-i : goal.decreases-loop-i
decreases-loop-i l = l.count - l.i
