-- What opening an image gives: always a log.
use Rattle.std.specs.Prelude.{Option, Some, None, Err, List, [], ℕ, ◌+◌, min, max, eqb, length}
use Rattle.basics.specs.Answers.{all_done}
use Rattle.basics.specs.Choice.{pick}
use Rattle.basics.specs.declared.Refusal.TheVariants.{BadImage}
use Rattle.codec.specs.declared.Raw.{Raw}
use Rattle.flash.specs.Image.{sectors_in, slot_at}
use Rattle.records.specs.declared.State.{State}
use Rattle.records.specs.declared.State.TheVariants.{Unformatted, Failed, Active}
use Rattle.records.specs.declared.Log.{Log}
use Rattle.records.specs.Logs.{places, log_of}
use Rattle.records.specs.Fitting.{seq_max}
use Rattle.scan.specs.declared.RegionScan.{RegionScan}
use Rattle.scan.specs.declared.Opened.{Opened}
use Rattle.scan.specs.Choosing.{chosen_of}
use Rattle.scan.specs.Reading.{Read, too_many, these, records_in, head_in}

abbrev pub region_of : State → List Raw → RegionScan
region_of state t = record { state = state; count = length t; table = places t }

-- "A 33rd distinct key makes the log Failed with an empty table"
abbrev pub region_read : ℕ → ℕ → ℕ → Read → RegionScan
region_read s seq head too_many = region_of Failed []
region_read s seq head (these t) = region_of (Active s seq head) t

-- "None: Unformatted."
abbrev pub region_chosen : List ℕ → Option (ℕ × ℕ) → RegionScan
region_chosen image None = region_of Unformatted []
region_chosen image (Some (s, seq)) = region_read s seq (head_in (slot_at image s)) (records_in seq (slot_at image s))

-- the region of an image with headers of this version
unfoldable pub scan_of : ℕ → List ℕ → RegionScan
scan_of version image = region_chosen image (chosen_of version (sectors_in (length image)) image)

-- "Next seq is the larger of 1 and highest seq plus 1, held at 4,294,967,295." The winner's seq is the highest; 1 where there is no winner
-- or the log is Failed
abbrev pub next_of : State → ℕ
next_of Unformatted = 1
next_of Failed = 1
next_of (Active s seq head) = max 1 (min (seq + 1) seq_max)

abbrev pub log_from : RegionScan → Log
log_from r = record { state = r.state; next_seq = next_of r.state; count = r.count; table = r.table }

-- "1 BadImage: length 0, not a multiple of 4,096, above 65,536: open gives a Failed log with no records and next_seq 1"
unfoldable pub open_of : List ℕ → Opened
open_of image =
    pick (eqb (sectors_in (length image)) 0)
    (record { answer = Err BadImage; log = log_of Failed 1 [] })
    (record { answer = all_done; log = log_from (scan_of 2 image) })
