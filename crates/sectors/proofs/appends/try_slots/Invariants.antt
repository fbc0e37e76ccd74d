-- `sectors::appends::try_slots` meets its contract.
use Rattle.std.specs.Prelude.{Err}
use mathlib.Core.Path.{◌≡◌}
use mathlib.Core.Bool.{Bool}
use Prim.Native.Nat.{◌+◌, ◌-◌, ◌*◌, ◌≤◌}
use lib.ListN.{length}
use Rattle.basics.specs.declared.Refusal.TheVariants.{WriteError}
use Rattle.sectors.specs.Appends.{tries_from}
use Rattle.sectors.specs.Shown.{flash_with}
use Rattle.sectors.proofs.appends.try_slots.Given as goal

abbrev pub invariant-loop : goal.invariant-loop
invariant-loop l =
    (l.h ≤ 256) × (length l.image ≡ length l.initial.image) × (l.u.programmed + 16 * (3 - l.counter) ≤ l.initial.u.programmed + 48)
    × ((cut : Bool)
    → (now : Bool)
    × (tries_from (3 - l.counter) l.sector l.h l.bytes l.answer (flash_with l.image l.u now)
    ≡ tries_from 3 l.sector l.head l.bytes (Err WriteError) (flash_with l.initial.image l.initial.u cut)))
