-- The table is right, all of it computed; and so is each of its rows.
use mathlib.Core.Path.{◌≡◌, refl}
use mathlib.Core.List.{List, [], ◌∷◌}
use Prim.Native.Nat.{ℕ, zero, suc, ◌<◌}
use native.Mathlib.Omega.{arith}
use lib.ListN.{length, get_or}
use Rattle.basics.specs.Lists.{same, all_are}
use Rattle.basics.specs.Little.{le_bytes, le_number}
use Rattle.crc.specs.Register.{turn, turns, eat, feed, finished, crc32_of}
use Rattle.ids.specs.Ids.{is_monotonic}
use Rattle.ids.specs.Counters.{remaining_of}
use Rattle.codec.specs.Slots.{slot_of, crc_under}
use Rattle.bodies.specs.Bodies.{anchor_record}
use Rattle.flash.specs.Image.{sectors_in, slot_at, with_slot}
use Rattle.flash.specs.Run.{program, landed}
use Rattle.records.specs.Table.{holds, place_of, joined, held_of}
use Rattle.records.specs.Fitting.{log_fits, all_zeros, keys_fit}
use Rattle.sectors.specs.Appends.{tries_from, append_of}
use Rattle.decisions.specs.Decisions.{value_decision, anchor_write, anchor_decision}
use Rattle.reads.specs.Entering.{entry_answer, room_for}
use Rattle.decisions.specs.Outcomes.{entered}
use Rattle.decisions.specs.Performing.{performed}
use Rattle.counter_log.specs.Calls.{put_value_of, put_anchor_of}
use Rattle.worked.specs.Table.{Row, table}

unfoldable pub AllRight : List Row → Type 0
AllRight [] = Unit {0}
AllRight (r ∷ rs) = (r.given ≡ r.said) × AllRight rs

pub table_right : AllRight table
unfolding AllRight table same le_bytes le_number turn turns eat feed finished crc32_of remaining_of anchor_record put_value_of put_anchor_of entered
    entry_answer sectors_in log_fits all_zeros keys_fit all_are holds place_of held_of room_for value_decision anchor_write anchor_decision is_monotonic
    performed joined append_of tries_from program landed slot_at with_slot slot_of crc_under
table_right = (refl, (refl, (refl, (refl, (refl, (refl, (refl, (refl, (refl, (refl, (refl, (refl, (refl, tt)))))))))))))

-- what stands at a place past the end
abbrev pub empty : Row
empty = record { kind = Unit {0}; given = tt; said = tt }

right_at : (rows : List Row) → AllRight rows → (i : ℕ) → i < length rows → (get_or rows i empty).given ≡ (get_or rows i empty).said
unfolding AllRight
right_at [] all i h = refl
right_at (r ∷ rs) all zero h = all.0
right_at (r ∷ rs) all (suc i) h = right_at rs all.1 i (omega arith)

-- what the definitions give in row i is what the paper says
pub row_right : (i : ℕ) → i < length table → (get_or table i empty).given ≡ (get_or table i empty).said
row_right = right_at table table_right
