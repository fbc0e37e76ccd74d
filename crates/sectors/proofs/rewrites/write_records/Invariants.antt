-- `sectors::rewrites::write_records` meets its contract.
use mathlib.Core.Path.{◌≡◌}
use mathlib.Core.Bool.{Bool}
use Prim.Native.Nat.{◌+◌, ◌*◌, ◌≤◌}
use lib.ListN.{length, take, drop}
use Rattle.codec.specs.Slots.{seq_fed}
use Rattle.sectors.specs.Sectors.{write_records}
use Rattle.sectors.specs.Shown.{flash_with}
use Rattle.sectors.proofs.rewrites.write_records.Given as goal

abbrev pub invariant-loop-i : goal.invariant-loop-i
invariant-loop-i l =
    (l.start ≡ seq_fed l.seq) × (length l.image ≡ length l.initial.image) × (l.u.programmed ≤ l.initial.u.programmed + 16 * l.i)
    × ((cut : Bool)
    → (now : Bool)
    × (write_records l.sector l.seq (l.i + 1) (drop l.i (take l.count l.table)) (flash_with l.image l.u now)
    ≡ write_records l.sector l.seq 1 (take l.count l.table) (flash_with l.initial.image l.initial.u cut)))
