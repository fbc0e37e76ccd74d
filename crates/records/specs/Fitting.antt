-- "2 BadLog": what a log value must be for an image of n sectors. Calls without an image take n = 16.
use Rattle.std.specs.Prelude.{Bool, true, not, ◌&&◌, ◌||◌, List, [], ◌∷◌, ℕ, eqb, leb, ltb, drop, Option, Some, None}
use Rattle.basics.specs.Choice.{pick}
use Rattle.basics.specs.Lists.{all_are}
use Rattle.codec.specs.declared.Raw.{Raw}
use Rattle.flash.specs.Image.{slot_count}
use Rattle.records.specs.declared.State.{State}
use Rattle.records.specs.declared.State.TheVariants.{Unformatted, Failed, Active}
use Rattle.records.specs.declared.Log.{Log}
use Rattle.records.specs.Table.{limit, place_of, holds, held_of}
use Rattle.records.specs.Logs.{records_of}
use Rattle.records.specs.declared.fitting.Looked.{Looked}

abbrev pub seq_max : ℕ
seq_max = 4294967295

-- the head of a full sector: one past its last slot
abbrev pub head_max : ℕ
head_max = slot_count

-- "Active sector not below n; head outside 1..256; next_seq ≤ seq unless it is the maximum; records while not Active"
abbrev pub state_fits : ℕ → State → ℕ → ℕ → Bool
state_fits n Unformatted next count = eqb count 0
state_fits n Failed next count = eqb count 0
state_fits n (Active sector seq head) next count =
    ltb sector n && ((leb 1 head && leb head head_max) && (ltb seq next || eqb next seq_max))

-- "a place past the count that isn't zeros"
abbrev pub is_zeros : Raw → Bool
is_zeros r = eqb r.tag 0 && (eqb r.id 0 && all_are 0 r.body)

unfoldable pub all_zeros : List Raw → Bool
all_zeros [] = true
all_zeros (r ∷ rs) = is_zeros r && all_zeros rs

-- "a key twice; tag FF"
unfoldable pub keys_fit : List Raw → Bool
keys_fit [] = true
keys_fit (r ∷ rs) = not (eqb r.tag 0xFF) && (not (holds r.tag r.id rs) && keys_fit rs)

-- "over 32 records", "next_seq 0"
unfoldable pub log_fits : ℕ → Log → Bool
log_fits n log =
    not (eqb log.next_seq 0)
    && (leb log.count limit
    && (state_fits n log.state log.next_seq log.count
    && (all_zeros (drop log.count log.table) && keys_fit (records_of log))))

-- in a log that fits, the place of a key (the count where there is none) and the record held of it
unfoldable pub looked_of : ℕ → ℕ → ℕ → Log → Option Looked
looked_of n tag id log =
    pick (log_fits n log) (Some (record { at = place_of tag id (records_of log); held = held_of tag id (records_of log) })) None
