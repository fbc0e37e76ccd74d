-- `sectors::commits::commit` meets its contract.
use Rattle.std.specs.Prelude.{Err}
use mathlib.Core.Path.{◌≡◌}
use mathlib.Core.Bool.{Bool}
use Prim.Native.Nat.{◌+◌, ◌-◌, ◌*◌, ◌≤◌, ◌<◌}
use lib.ListN.{length, take}
use Rattle.basics.specs.declared.Refusal.TheVariants.{WriteError}
use Rattle.records.specs.Table.{limit}
use Rattle.records.specs.Fitting.{seq_max}
use Rattle.sectors.specs.Commits.{commit_from}
use Rattle.sectors.specs.Shown.{flash_with}
use Rattle.sectors.proofs.commits.commit.Given as goal

abbrev pub invariant-loop : goal.invariant-loop
invariant-loop l =
    (l.s < l.sectors) × (l.next ≤ seq_max) × (length l.image ≡ length l.initial.image)
    × (l.u.programmed + 16 * (limit + 1) * (l.sectors - l.counter) ≤ l.initial.u.programmed + 16 * (limit + 1) * l.sectors)
    × (l.u.erased + 4096 * (l.sectors - l.counter) ≤ l.initial.u.erased + 4096 * l.sectors)
    × ((cut : Bool)
    → (now : Bool)
    × (commit_from (l.sectors - l.counter) l.sectors l.avoid l.s (take l.count l.table) l.answer l.state l.next (flash_with l.image l.u now)
    ≡ commit_from l.sectors l.sectors l.avoid l.first (take l.count l.table) (Err WriteError) l.state l.next_seq (flash_with l.initial.image l.initial.u cut)))
