-- The calls that can change a log or an image, with any arguments, and what each comes to. The others take no image and hand back no log.
use Rattle.std.specs.Prelude.{◌≡◌, true, List, [], ◌⊎◌, ℕ, ◌+◌, ◌<◌, ◌^◌, length}
use Rattle.std.specs.Result.{result_unwrap_or}
use Rattle.ids.specs.declared.CounterState.{CounterState}
use Rattle.ids.specs.declared.Anchor.{Anchor}
use Rattle.ids.specs.Ids.{counter_tag, value_tag, lamport}
use Rattle.ids.specs.Counters.{one_more, reset_of}
use Rattle.codec.specs.declared.Raw.{Raw}
use Rattle.codec.specs.Slots.{no_raw}
use Rattle.bodies.specs.Bodies.{counter_record, value_record, anchor_record}
use Rattle.flash.specs.declared.Plan.{Plan}
use Rattle.flash.specs.Image.{sectors_in}
use Rattle.records.specs.declared.State.{State}
use Rattle.records.specs.declared.State.TheVariants.{Unformatted, Failed, Active}
use Rattle.records.specs.declared.Log.{Log}
use Rattle.records.specs.Logs.{records_of}
use Rattle.records.specs.Table.{held_of}
use Rattle.decisions.specs.declared.seeds.Seed.{Seed}
use Rattle.decisions.specs.Outcomes.{Outcome, flash_of}
use Rattle.decisions.specs.Performing.{formatted}
use Rattle.counter_log.specs.Calls.{is_first, put_of, put_value_of, put_anchor_of, format_of}
use Rattle.tries.specs.Tries.{start_of, spend_of, set_of, seen_of, advance_of}
use Rattle.demands.specs.Chance.{Unmatched}
use Rattle.demands.specs.Healthy.{healthy}
use Rattle.demands.specs.Seen.{Seen, seen, Table, holding, table_in, table_of}
use Rattle.demands.specs.Typed.{TypedCounter, TypedAnchor, TypedSeeds}

pub data Call : Type 0 where
  put : ℕ → CounterState → Call
  put-value : ℕ → ℕ → Call
  put-anchor : Anchor → Call
  format : List Seed → ℕ → Call
  spend : ℕ → ℕ → Call
  set-tries : ℕ → ℕ → Call
  advance_lamport : ℕ → Call

abbrev pub outcome_of : Call → List ℕ → Log → Plan → Outcome
outcome_of (put credential new) image log plan = put_of image log plan credential new
outcome_of (put-value id new) image log plan = put_value_of image log plan id new
outcome_of (put-anchor new) image log plan = put_anchor_of image log plan new
outcome_of (format seeds count) image log plan = format_of image log plan seeds count
outcome_of (spend credential current) image log plan = spend_of image log plan credential current
outcome_of (set-tries credential tries) image log plan = set_of image log plan credential tries
outcome_of (advance_lamport latest) image log plan = advance_of image log plan latest

-- the arguments have their types
abbrev pub Typed : Call → Type 0
Typed (put credential new) = (credential < 256) × TypedCounter new
Typed (put-value id new) = (id < 256) × (new < 2 ^ 64)
Typed (put-anchor new) = TypedAnchor new
Typed (format seeds count) = TypedSeeds seeds
Typed (spend credential current) = (credential < 256) × (current < 256)
Typed (set-tries credential tries) = (credential < 256) × (tries < 256)
Typed (advance_lamport latest) = latest < 2 ^ 64

-- "The table after a call is the one it reaches on a flash that refuses nothing."
abbrev pub table_after : Call → List ℕ → Log → Table
table_after c image log = table_of (outcome_of c image log healthy).log

-- what a put_anchor that had no effect may leave: what was seen before, or of a first anchor the empty log ("an anchor's own format may stand")
abbrev pub AnchorNoEffect : State → Anchor → Log → Seen → Type 0
AnchorNoEffect Unformatted new log z = (z ≡ seen log) ⊎ ((is_first new ≡ true) × (table_in z ≡ holding []))
AnchorNoEffect Failed new log z = z ≡ seen log
AnchorNoEffect (Active sector seq head) new log z = z ≡ seen log

-- what a call that had no effect leaves to be seen: what was seen before
abbrev pub NoEffect : Call → Log → Seen → Type 0
NoEffect (put credential new) log z = z ≡ seen log
NoEffect (put-value id new) log z = z ≡ seen log
NoEffect (put-anchor new) log z = AnchorNoEffect log.state new log z
NoEffect (format seeds count) log z = z ≡ seen log
NoEffect (spend credential current) log z = z ≡ seen log
NoEffect (set-tries credential tries) log z = z ≡ seen log
NoEffect (advance_lamport latest) log z = z ≡ seen log

-- the record of an anchor; zeros where there is none
abbrev pub anchor_raw : Anchor → Raw
anchor_raw a = result_unwrap_or (anchor_record a) no_raw

-- ---- the chance match of a call
-- the record that a call appends, where it appends one, to a log with these records
abbrev pub record_of : Call → List Raw → Raw
record_of (put credential new) t = counter_record credential new
record_of (put-value id new) t = value_record id new
record_of (put-anchor new) t = anchor_raw new
record_of (format seeds count) t = no_raw
record_of (spend credential current) t = counter_record credential (one_more (start_of (held_of counter_tag credential t) current))
record_of (set-tries credential tries) t = counter_record credential (reset_of (start_of (held_of counter_tag credential t) tries) tries)
record_of (advance_lamport latest) t = value_record lamport (seen_of (held_of value_tag lamport t) latest + 1)

-- the state of the log that it is appended to: "For the first anchor the chance match is taken under the new sector's seq."
abbrev pub anchor_to : State → List ℕ → Log → Plan → State
anchor_to Unformatted image log plan = (formatted [] (sectors_in (length image)) log (flash_of image plan)).log.state
anchor_to Failed image log plan = Failed
anchor_to (Active sector seq head) image log plan = Active sector seq head

abbrev pub appends_to : Call → List ℕ → Log → Plan → State
appends_to (put credential new) image log plan = log.state
appends_to (put-value id new) image log plan = log.state
appends_to (put-anchor new) image log plan = anchor_to log.state image log plan
appends_to (format seeds count) image log plan = Unformatted
appends_to (spend credential current) image log plan = log.state
appends_to (set-tries credential tries) image log plan = log.state
appends_to (advance_lamport latest) image log plan = log.state

-- what was cut is no chance match
abbrev pub NoChance : Call → List ℕ → Log → Plan → Type 0
NoChance c image log plan = Unmatched (appends_to c image log plan) (record_of c (records_of log)) (outcome_of c image log plan).flash.image
