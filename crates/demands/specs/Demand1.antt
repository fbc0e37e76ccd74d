-- Demand 1: every refusal by its number, their order, and that nothing is changed by one: of the calls that can write, of those that only
-- read the log, of opening.
use Rattle.std.specs.Prelude.{◌≡◌, Bool, true, false, ◌&&◌, ◌||◌, List, [], ℕ, leb, length, Option, Some, Result}
use Rattle.basics.specs.Choice.{pick}
use Rattle.basics.specs.Answers.{number_of, answer_in, beside}
use Rattle.basics.specs.declared.Refusal.{Refusal}
use Rattle.basics.specs.Says.{Says, says_refused, option_says, value_told, flag_told}
use Rattle.ids.specs.declared.CounterState.{CounterState}
use Rattle.ids.specs.declared.Anchor.{Anchor}
use Rattle.ids.specs.Ids.{is_credential, is_value}
use Rattle.flash.specs.declared.Plan.{Plan}
use Rattle.flash.specs.Image.{sectors_most, sectors_in}
use Rattle.records.specs.declared.State.{State}
use Rattle.records.specs.declared.State.TheVariants.{Unformatted, Failed, Active}
use Rattle.records.specs.declared.Log.{Log}
use Rattle.records.specs.Logs.{log_of}
use Rattle.scan.specs.Opening.{open_of}
use Rattle.records.specs.Fitting.{log_fits}
use Rattle.reads.specs.Reads.{get_of, value_of, anchor_of, lamport_of, needs_migration_of}
use Rattle.decisions.specs.Seeds.{seeds_known}
use Rattle.counter_log.specs.Calls.{is_first}
use Rattle.decisions.specs.Outcomes.{flash_of, refused}
use Rattle.tries.specs.Tries.{tries_left_of, load_of}
use Rattle.demands.specs.Calls.{Call, put, put-value, put-anchor, format, spend, set-tries, advance_lamport, outcome_of}

-- 1 to 5, 8 and 9 leave "all unchanged"
abbrev pub leaves_all : ℕ → Bool
leaves_all n = (leb 1 n && leb n 5) || leb 8 n

-- the ids that a call names are known
abbrev pub known_in : Call → Bool
known_in (put credential new) = is_credential credential
known_in (put-value id new) = is_value id
known_in (put-anchor new) = true
known_in (format seeds count) = seeds_known seeds count
known_in (spend credential current) = is_credential credential
known_in (set-tries credential tries) = is_credential credential
known_in (advance_lamport latest) = true

-- the number that a log's state is refused with; 0 where it is let in
abbrev pub by_state : ℕ → ℕ → ℕ → State → ℕ
by_state unformatted failed active Unformatted = unformatted
by_state unformatted failed active Failed = failed
by_state unformatted failed active (Active sector seq head) = active

-- "4 NotFormatted, 5 ReadError: log Unformatted, log Failed; format gives 6 instead of 5; .. put_anchor with head_seq and head_slot both 0
-- doesn't give 4"
abbrev pub state_number : Call → State → ℕ
state_number (put credential new) z = by_state 4 5 0 z
state_number (put-value id new) z = by_state 4 5 0 z
state_number (put-anchor new) z = by_state (pick (is_first new) 0 4) 5 0 z
state_number (format seeds count) z = by_state 0 6 6 z
state_number (spend credential current) z = by_state 4 5 0 z
state_number (set-tries credential tries) z = by_state 4 5 0 z
state_number (advance_lamport latest) z = by_state 4 5 0 z

-- log, plan, image and wear figures as they came, and no value
abbrev pub Unchanged : Call → List ℕ → Log → Plan → Type 0
Unchanged c image log plan = outcome_of c image log plan ≡ refused (outcome_of c image log plan).answer log (flash_of image plan)

abbrev pub RefusedWith : Call → List ℕ → Log → Plan → ℕ → Type 0
RefusedWith c image log plan n = (number_of (outcome_of c image log plan).answer ≡ n) × Unchanged c image log plan

-- what is told of the answer that a call hands back is the value that it comes to, so that beside a refusal it is 0
abbrev pub Told : Call → List ℕ → Log → Plan → Type 0
Told c image log plan =
    value_told (beside (outcome_of c image log plan).answer (outcome_of c image log plan).value) ≡ (outcome_of c image log plan).value

-- "Order: 1, 2, 3, then the Rust's order."
pub record Refuses (c : Call) (image : List ℕ) (log : Log) (plan : Plan) : Type 0 where
  pub no_image : sectors_in (length image) ≡ 0 → RefusedWith c image log plan 1
  pub bad_log : (sectors_in (length image) ≡ 0 → ⊥) → log_fits (sectors_in (length image)) log ≡ false
      → RefusedWith c image log plan 2
  pub bad_id : (sectors_in (length image) ≡ 0 → ⊥) → log_fits (sectors_in (length image)) log ≡ true → known_in c ≡ false
      → RefusedWith c image log plan 3
  pub not-ready : (sectors_in (length image) ≡ 0 → ⊥) → log_fits (sectors_in (length image)) log ≡ true → known_in c ≡ true
      → (state_number c log.state ≡ 0 → ⊥) → RefusedWith c image log plan (state_number c log.state)
  pub unchanged : leaves_all (number_of (outcome_of c image log plan).answer) ≡ true → Unchanged c image log plan
  pub told : Told c image log plan

-- ---- the calls that only read the log: they take no image and no plan and hand back no log, so there is nothing that a refusal could change
pub data Asked : Type 0 where
  get get_value remaining : ℕ → Asked
  anchor lamport needs-migration : Asked
  load : ℕ → Bool → ℕ → Asked

abbrev pub Reply : Asked → Type 0
Reply (get credential) = Result (Option CounterState) Refusal
Reply (get_value id) = Result (Option ℕ) Refusal
Reply (remaining credential) = Result (Option ℕ) Refusal
Reply anchor = Result (Option Anchor) Refusal
Reply lamport = Result ℕ Refusal
Reply needs-migration = Result Bool Refusal
Reply (load credential exists fresh) = Result ℕ Refusal

abbrev pub reply_of : (q : Asked) → Log → Reply q
reply_of (get credential) log = get_of log credential
reply_of (get_value id) log = value_of log id
reply_of (remaining credential) log = tries_left_of log credential
reply_of anchor log = anchor_of log
reply_of lamport log = lamport_of log
reply_of needs-migration log = needs_migration_of log
reply_of (load credential exists fresh) log = load_of log credential exists fresh

-- the value asked for
abbrev pub Value : Asked → Type 0
Value (get credential) = CounterState
Value (get_value id) = ℕ
Value (remaining credential) = ℕ
Value anchor = Anchor
Value lamport = ℕ
Value needs-migration = ℕ
Value (load credential exists fresh) = ℕ

-- what a reply says: the paper's number, and the value; where a number is told, there is always one: what `basics::value` gives of the reply,
-- and `basics::flag` of a flag
abbrev pub says_number : ℕ → ℕ → Says ℕ
says_number n x = record { number = n; value = Some x }

abbrev pub told_says : Result ℕ Refusal → Says ℕ
told_says r = says_number (number_of (answer_in r)) (value_told r)

abbrev pub flag_says : Result Bool Refusal → Says ℕ
flag_says r = says_number (number_of (answer_in r)) (flag_told r)

abbrev pub says_of : (q : Asked) → Reply q → Says (Value q)
says_of (get credential) = option_says
says_of (get_value id) = option_says
says_of (remaining credential) = option_says
says_of anchor = option_says
says_of lamport = told_says
says_of needs-migration = flag_says
says_of (load credential exists fresh) = told_says

-- "Beside a refusal any value asked for is 0 or none."
abbrev pub turned_away : (q : Asked) → ℕ → Says (Value q)
turned_away (get credential) n = says_refused n
turned_away (get_value id) n = says_refused n
turned_away (remaining credential) n = says_refused n
turned_away anchor n = says_refused n
turned_away lamport n = says_number n 0
turned_away needs-migration n = says_number n 0
turned_away (load credential exists fresh) n = says_number n 0

abbrev pub known_to : Asked → Bool
known_to (get credential) = is_credential credential
known_to (get_value id) = is_value id
known_to (remaining credential) = is_credential credential
known_to anchor = true
known_to lamport = true
known_to needs-migration = true
known_to (load credential exists fresh) = is_credential credential

-- "anchor on an Unformatted log answers none", needs_migration says whether it is one, load "gives 0 where the log would answer 4 or 5"
abbrev pub state_reply : Asked → State → ℕ
state_reply (get credential) z = by_state 4 5 0 z
state_reply (get_value id) z = by_state 4 5 0 z
state_reply (remaining credential) z = by_state 4 5 0 z
state_reply anchor z = by_state 0 5 0 z
state_reply lamport z = by_state 4 5 0 z
state_reply needs-migration z = 0
state_reply (load credential exists fresh) z = 0

-- "Calls that only read the log take no image; for them the sector must be below 16."
pub record RefusesAsked (q : Asked) (log : Log) : Type 0 where
  pub bad_log : log_fits sectors_most log ≡ false → says_of q (reply_of q log) ≡ turned_away q 2
  pub bad_id : log_fits sectors_most log ≡ true → known_to q ≡ false → says_of q (reply_of q log) ≡ turned_away q 3
  pub not-ready : log_fits sectors_most log ≡ true → known_to q ≡ true → (state_reply q log.state ≡ 0 → ⊥)
      → says_of q (reply_of q log) ≡ turned_away q (state_reply q log.state)

-- ---- opening: "1 BadImage: open gives a Failed log with no records and next_seq 1"
abbrev pub RefusesImage : List ℕ → Type 0
RefusesImage image = sectors_in (length image) ≡ 0 → (number_of (open_of image).answer ≡ 1) × ((open_of image).log ≡ log_of Failed 1 [])

-- ---- the demand: of every call with any arguments, on any image, log value and plan; of every question to any log value; of opening any image
abbrev pub Demand1Calls : Type 0
Demand1Calls = (c : Call) (image : List ℕ) (log : Log) (plan : Plan) → Refuses c image log plan

abbrev pub Demand1Asked : Type 0
Demand1Asked = (q : Asked) (log : Log) → RefusesAsked q log

abbrev pub Demand1Open : Type 0
Demand1Open = (image : List ℕ) → RefusesImage image
