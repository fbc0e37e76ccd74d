-- `scan::sector::scan_sector` meets its contract.
use mathlib.Core.Path.{◌≡◌}
use Rattle.codec.specs.Slots.{seq_fed}
use Rattle.flash.specs.Image.{slot_at}
use Rattle.scan.proofs.ReadingLaws.{Scanning}
use Rattle.scan.proofs.sector.scan_sector.Given as goal

abbrev pub invariant-loop-k : goal.invariant-loop-k
invariant-loop-k l =
    (l.start ≡ seq_fed l.seq) × Scanning l.seq (slot_at l.image l.sector) l.table l.tags l.ids l.count l.head l.k
