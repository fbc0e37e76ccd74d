-- "A healthy append reports 16 and 0; a healthy commit of r records 16 × (r + 1) and 4,096." Each is done, and hands back the new log.
use Rattle.basics.specs.Answers.{all_done}
use Rattle.std.specs.Prelude.{◌≡◌, true, List, ℕ, ◌+◌, ◌*◌, ◌<◌, length}
use Rattle.ids.specs.Ids.{counter_tag, value_tag, anchor_tag, lamport}
use Rattle.codec.specs.declared.Raw.{Raw}
use Rattle.codec.specs.Slots.{slot_size}
use Rattle.flash.specs.Image.{sector_size, sectors_in}
use Rattle.records.specs.declared.State.TheVariants.{Unformatted, Active}
use Rattle.records.specs.declared.Log.{Log}
use Rattle.records.specs.Table.{joined, held_of}
use Rattle.records.specs.Logs.{log_of, records_of}
use Rattle.records.specs.Fitting.{seq_max, head_max}
use Rattle.sectors.specs.Commits.{sector_after}
use Rattle.decisions.specs.declared.Decision.{Decision}
use Rattle.decisions.specs.Decisions.{give, put_decision, value_decision, anchor_decision, writes_record, record_in, reply_in}
use Rattle.reads.specs.Entering.{room_for}
use Rattle.decisions.specs.declared.seeds.Seed.{Seed}
use Rattle.decisions.specs.Seeds.{seed_table}
use Rattle.decisions.specs.Outcomes.{Outcome}
use Rattle.tries.specs.Tries.{spend_decision, set_decision, advance_decision}
use Rattle.demands.specs.Healthy.{healthy}
use Rattle.demands.specs.Calls.{Call, put, put-value, put-anchor, format, spend, set-tries, advance_lamport, outcome_of, Typed}
use Rattle.demands.specs.Typed.{TypedSeeds}
use Rattle.demands.specs.Sessions.{Made, Powered, now}
use Rattle.demands.specs.Demand1.{known_in}

-- done, with this value and log, and so many bytes programmed and erased
pub record Reports (value : ℕ) (log : Log) (programmed erased : ℕ) (o : Outcome) : Type 0 where
  pub answer : o.answer ≡ all_done
  pub value-is : o.value ≡ value
  pub log_is : o.log ≡ log
  pub programmed-is : o.flash.programmed ≡ programmed
  pub erased-is : o.flash.erased ≡ erased

-- what a call decides on an Active log with these records
abbrev pub decision_of : Call → List Raw → Decision
decision_of (put credential new) t = put_decision (held_of counter_tag credential t) (room_for counter_tag credential t) credential new
decision_of (put-value id new) t = value_decision (held_of value_tag id t) (room_for value_tag id t) id new
decision_of (put-anchor new) t = anchor_decision (held_of anchor_tag 0 t) (room_for anchor_tag 0 t) new
decision_of (format seeds count) t = give 0
decision_of (spend credential current) t = spend_decision (held_of counter_tag credential t) (room_for counter_tag credential t) credential current
decision_of (set-tries credential tries) t = set_decision (held_of counter_tag credential t) (room_for counter_tag credential t) credential tries
decision_of (advance_lamport latest) t = advance_decision (held_of value_tag lamport t) (room_for value_tag lamport t) latest

-- the table with the record that a call decides to write
abbrev pub new_table : Call → Log → List Raw
new_table c log = joined (record_in (decision_of c (records_of log))) (records_of log)

-- a call that decides to write a record, on a flash that refuses nothing
pub record WritesWell (c : Call) (image : List ℕ) (log : Log) : Type 0 where
  pub append : known_in c ≡ true → (s seq head : ℕ) → log.state ≡ Active s seq head → writes_record (decision_of c (records_of log)) ≡ true → head < head_max
      → Reports (reply_in (decision_of c (records_of log))) (log_of (Active s seq (head + 1)) log.next_seq (new_table c log)) slot_size 0
      (outcome_of c image log healthy)
  pub commit : known_in c ≡ true → (s seq head : ℕ) → log.state ≡ Active s seq head → writes_record (decision_of c (records_of log)) ≡ true
      → head ≡ head_max → 1 < sectors_in (length image) → (log.next_seq ≡ seq_max → ⊥)
      → Reports (reply_in (decision_of c (records_of log)))
      (log_of (Active (sector_after (sectors_in (length image)) s) log.next_seq (length (new_table c log) + 1)) (log.next_seq + 1)
      (new_table c log))
      (slot_size * (length (new_table c log) + 1)) sector_size (outcome_of c image log healthy)

-- a format on one
abbrev pub FormatsWell : List Seed → ℕ → List ℕ → Log → Type 0
FormatsWell seeds count image log =
    known_in (format seeds count) ≡ true → log.state ≡ Unformatted → (log.next_seq ≡ seq_max → ⊥)
    → Reports 0 (log_of (Active 0 log.next_seq (length (seed_table seeds count) + 1)) (log.next_seq + 1) (seed_table seeds count))
    (slot_size * (length (seed_table seeds count) + 1)) sector_size (outcome_of (format seeds count) image log healthy)

-- ---- the statements: on the log and image of any session while power lasts
abbrev pub HealthyWrites : Type 0
HealthyWrites =
    (image : List ℕ) (ms : List Made) → Powered image ms → (c : Call) → Typed c → WritesWell c (now image ms).image (now image ms).log

abbrev pub HealthyFormats : Type 0
HealthyFormats =
    (image : List ℕ) (ms : List Made) → Powered image ms → (seeds : List Seed) (count : ℕ) → TypedSeeds seeds
    → FormatsWell seeds count (now image ms).image (now image ms).log
