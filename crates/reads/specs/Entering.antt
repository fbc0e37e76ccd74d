-- "Order: 1, 2, 3, then the Rust's order": what every call tests first, and what it finds of its key.
use Rattle.std.specs.Prelude.{Bool, ◌||◌, List, ℕ, eqb, ltb, length, Result, Err}
use Rattle.basics.specs.Choice.{pick}
use Rattle.basics.specs.Answers.{Answer, all_done, beside}
use Rattle.basics.specs.declared.Refusal.{Refusal}
use Rattle.basics.specs.declared.Refusal.TheVariants.{BadImage, BadLog, BadId}
use Rattle.codec.specs.declared.Raw.{Raw}
use Rattle.records.specs.declared.Log.{Log}
use Rattle.records.specs.Table.{limit, place_of, holds, held_of}
use Rattle.records.specs.Logs.{records_of}
use Rattle.records.specs.Fitting.{log_fits}
use Rattle.reads.specs.declared.Entry.{Entry}

-- for a log and an image of n sectors, 0 where it is no image; `known`: the ids that the call names are known
unfoldable pub entry_answer : ℕ → Log → Bool → Answer
entry_answer n log known = pick (eqb n 0) (Err BadImage) (pick (log_fits n log) (pick known all_done (Err BadId)) (Err BadLog))

-- whether there is room for a key
unfoldable pub room_for : ℕ → ℕ → List Raw → Bool
room_for tag id t = holds tag id t || ltb (length t) limit

abbrev pub found_entry : ℕ → ℕ → List Raw → Entry
found_entry tag id t = record { at = place_of tag id t; room = room_for tag id t; held = held_of tag id t }

unfoldable pub entry_of : ℕ → Log → Bool → ℕ → ℕ → Result Entry Refusal
entry_of n log known tag id = beside (entry_answer n log known) (found_entry tag id (records_of log))
