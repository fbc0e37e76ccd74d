-- The calls that only read the log: "Calls that only read the log take no image; for them the sector must be below 16."
-- "Beside a refusal any value asked for is 0 or none."
use Rattle.std.specs.Prelude.{Bool, true, false, List, ℕ, Option, None, Result, Ok, Err, option_map, unwrap_or}
use Rattle.basics.specs.Answers.{refusal_number, on_answer}
use Rattle.basics.specs.Says.{Says, says_refused, says_nothing}
use Rattle.basics.specs.declared.Refusal.{Refusal}
use Rattle.basics.specs.declared.Refusal.TheVariants.{NotFormatted, ReadError}
use Rattle.ids.specs.declared.CounterState.{CounterState}
use Rattle.ids.specs.declared.Anchor.{Anchor}
use Rattle.ids.specs.Ids.{counter_tag, value_tag, anchor_tag, is_credential, is_value, lamport}
use Rattle.codec.specs.declared.Raw.{Raw}
use Rattle.bodies.specs.Bodies.{counter_in, value_in, anchor_in}
use Rattle.flash.specs.Image.{sectors_most}
use Rattle.records.specs.declared.State.{State}
use Rattle.records.specs.declared.State.TheVariants.{Unformatted, Failed, Active}
use Rattle.records.specs.declared.Log.{Log}
use Rattle.records.specs.Table.{held_of}
use Rattle.records.specs.Logs.{records_of}
use Rattle.reads.specs.Entering.{entry_answer}

-- the tests first, then what the state and the record of the key say
abbrev pub read_by : {A : Type 0} → (State → Option Raw → A) → (Refusal → A) → Log → Bool → ℕ → ℕ → A
read_by by refused log known tag id =
    on_answer (entry_answer sectors_most log known) (by log.state (held_of tag id (records_of log))) refused

-- what is held of a key; `unformatted`: what is answered of an Unformatted log. "5 ReadError: log Failed"
abbrev pub held_by : Result (Option Raw) Refusal → State → Option Raw → Result (Option Raw) Refusal
held_by unformatted Unformatted held = unformatted
held_by unformatted Failed held = Err ReadError
held_by unformatted (Active sector seq head) held = Ok held

unfoldable pub record_held : Result (Option Raw) Refusal → Log → Bool → ℕ → ℕ → Result (Option Raw) Refusal
record_held unformatted = read_by (held_by unformatted) Err

-- the value that a record's body holds, where a record is held
abbrev pub read_in : {A : Type 0} → (List ℕ → A) → Result (Option Raw) Refusal → Result (Option A) Refusal
read_in body_in (Ok held) = Ok (option_map (λ (r : Raw). body_in r.body) held)
read_in body_in (Err r) = Err r

-- the same in the paper's numbers, for any value that a body holds; `unformatted`: what is said of an Unformatted log, 4 or that there is none
abbrev pub held_says : {A : Type 0} → Says A → (List ℕ → A) → State → Option Raw → Says A
held_says unformatted body_in Unformatted held = unformatted
held_says unformatted body_in Failed held = says_refused 5
held_says unformatted body_in (Active sector seq head) held = record { number = 0; value = option_map (λ (r : Raw). body_in r.body) held }

abbrev pub read_says : {A : Type 0} → Says A → (List ℕ → A) → Log → Bool → ℕ → ℕ → Says A
read_says unformatted body_in = read_by (held_says unformatted body_in) (λ r. says_refused (refusal_number r))

-- ---- get, value: "4 NotFormatted: log Unformatted"
unfoldable pub get_of : Log → ℕ → Result (Option CounterState) Refusal
get_of log credential = read_in counter_in (record_held (Err NotFormatted) log (is_credential credential) counter_tag credential)

unfoldable pub get_says : Log → ℕ → Says CounterState
get_says log credential = read_says (says_refused 4) counter_in log (is_credential credential) counter_tag credential

unfoldable pub value_of : Log → ℕ → Result (Option ℕ) Refusal
value_of log id = read_in value_in (record_held (Err NotFormatted) log (is_value id) value_tag id)

unfoldable pub value_says : Log → ℕ → Says ℕ
value_says log id = read_says (says_refused 4) value_in log (is_value id) value_tag id

-- ---- anchor: "on an Unformatted log answers "none" and no refusal"
unfoldable pub anchor_of : Log → Result (Option Anchor) Refusal
anchor_of log = read_in anchor_in (record_held (Ok None) log true anchor_tag 0)

unfoldable pub anchor_says : Log → Says Anchor
anchor_says log = read_says says_nothing anchor_in log true anchor_tag 0

-- ---- lamport: "answers 0 where no record is held"
abbrev pub lamport_by : Result (Option ℕ) Refusal → Result ℕ Refusal
lamport_by (Ok held) = Ok (unwrap_or held 0)
lamport_by (Err r) = Err r

abbrev pub lamport_of : Log → Result ℕ Refusal
lamport_of log = lamport_by (value_of log lamport)

-- ---- needs_migration: "says whether the log is Unformatted"
abbrev pub migration_by : State → Option Raw → Result Bool Refusal
migration_by Unformatted held = Ok true
migration_by Failed held = Ok false
migration_by (Active sector seq head) held = Ok false

unfoldable pub needs_migration_of : Log → Result Bool Refusal
needs_migration_of log = read_by migration_by Err log true anchor_tag 0
