-- `scan::choose` meets its contract. The loop's invariant: the choice from here on, with the best so far, is the choice among all.
use mathlib.Core.Path.{◌≡◌}
use Prim.Native.Nat.{◌-◌}
use Rattle.scan.specs.Choosing.{best_from, header_at, chosen_of}
use Rattle.scan.proofs.choose.Given as goal

abbrev pub invariant-loop-s : goal.invariant-loop-s
invariant-loop-s l =
    best_from (l.sectors - l.s) l.s (header_at l.version l.image) l.best ≡ chosen_of l.version l.sectors l.image
