-- "Tries": what the applets ask of a log.
use Rattle.std.specs.Prelude.{Bool, true, ◌&&◌, List, ℕ, ◌+◌, max, eqb, leb, Option, Some, None, Result, Ok, Err, option_map, unwrap_or, is_some}
use Rattle.basics.specs.Choice.{pick}
use Rattle.basics.specs.Answers.{refusal_number}
use Rattle.basics.specs.Says.{Says, says_map}
use Rattle.basics.specs.declared.Refusal.{Refusal}
use Rattle.basics.specs.declared.Refusal.TheVariants.{WriteError}
use Rattle.ids.specs.declared.CounterState.{CounterState}
use Rattle.ids.specs.Ids.{counter_tag, value_tag, is_credential, lamport}
use Rattle.ids.specs.Counters.{fresh_of, remaining_of, failed_of, reset_of}
use Rattle.codec.specs.declared.Raw.{Raw}
use Rattle.bodies.specs.Bodies.{counter_record, counter_in, value_record, value_in}
use Rattle.flash.specs.declared.Plan.{Plan}
use Rattle.records.specs.declared.Log.{Log}
use Rattle.reads.specs.Reads.{get_of, get_says}
use Rattle.decisions.specs.declared.Decision.{Decision}
use Rattle.decisions.specs.Decisions.{refuse, give, write}
use Rattle.decisions.specs.Outcomes.{Outcome, entered}
use Rattle.decisions.specs.Performing.{decided}

-- ---- remaining
abbrev pub tries_left_by : Result (Option CounterState) Refusal → Result (Option ℕ) Refusal
tries_left_by (Ok held) = Ok (option_map remaining_of held)
tries_left_by (Err r) = Err r

abbrev pub tries_left_of : Log → ℕ → Result (Option ℕ) Refusal
tries_left_of log credential = tries_left_by (get_of log credential)

-- in the paper's numbers: what get says, with the counter's tries
abbrev pub tries_left_says_of : Log → ℕ → Says ℕ
tries_left_says_of log credential = says_map remaining_of (get_says log credential)

-- ---- load: "gives 0 where the log would answer 4 or 5, and the fresh number only if nothing is held and no record exists; 2 and 3 stay refusals"
abbrev pub load_by : Bool → ℕ → Result (Option ℕ) Refusal → Result ℕ Refusal
load_by exists fresh (Ok held) = Ok (unwrap_or held (pick exists 0 fresh))
load_by exists fresh (Err r) = pick (leb 4 (refusal_number r)) (Ok 0) (Err r)

abbrev pub load_of : Log → ℕ → Bool → ℕ → Result ℕ Refusal
load_of log credential exists fresh = load_by exists fresh (tries_left_of log credential)

-- ---- spend: "it starts from the caller's number where no record is held"
unfoldable pub start_of : Option Raw → ℕ → CounterState
start_of None fresh = fresh_of fresh
start_of (Some r) fresh = counter_in r.body

-- "total 4,294,967,295 gives 6"
abbrev pub spent_by : Bool → ℕ → ℕ → Result CounterState Refusal → Decision
spent_by room credential before (Ok s) = write room (counter_record credential s) before
spent_by room credential before (Err r) = refuse r

-- "spend answers the tries before; 0 writes nothing"
unfoldable pub spend_from : CounterState → Bool → ℕ → Decision
spend_from s room credential = pick (eqb (remaining_of s) 0) (give 0) (spent_by room credential (remaining_of s) (failed_of s))

abbrev pub spend_decision : Option Raw → Bool → ℕ → ℕ → Decision
spend_decision held room credential current = spend_from (start_of held current) room credential

unfoldable pub spend_of : List ℕ → Log → Plan → ℕ → ℕ → Outcome
spend_of image log plan credential current =
    entered image log plan (is_credential credential)
    (decided counter_tag credential (λ (held : Option Raw) (room : Bool). spend_decision held room credential current))

-- ---- set: "writes nothing if remaining is already that number; otherwise at-reset becomes total and the allowance that number (total 0
-- where no record is held)"
unfoldable pub set_decision : Option Raw → Bool → ℕ → ℕ → Decision
set_decision held room credential tries =
    pick (is_some held && eqb (remaining_of (start_of held tries)) tries) (give 0)
    (write room (counter_record credential (reset_of (start_of held tries) tries)) 0)

unfoldable pub set_of : List ℕ → Log → Plan → ℕ → ℕ → Outcome
set_of image log plan credential tries =
    entered image log plan (is_credential credential)
    (decided counter_tag credential (λ (held : Option Raw) (room : Bool). set_decision held room credential tries))

-- ---- advance_lamport: "takes the larger of held and seen, and adds 1 to it; overflow 6"
abbrev pub lamport_max : ℕ
lamport_max = 18_446_744_073_709_551_615

abbrev pub seen_of : Option Raw → ℕ → ℕ
seen_of None seen = seen
seen_of (Some r) seen = max (value_in r.body) seen

unfoldable pub advance_from : ℕ → Bool → Decision
advance_from most room = pick (eqb most lamport_max) (refuse WriteError) (write room (value_record lamport (most + 1)) (most + 1))

abbrev pub advance_decision : Option Raw → Bool → ℕ → Decision
advance_decision held room seen = advance_from (seen_of held seen) room

unfoldable pub advance_of : List ℕ → Log → Plan → ℕ → Outcome
advance_of image log plan seen =
    entered image log plan true (decided value_tag lamport (λ (held : Option Raw) (room : Bool). advance_decision held room seen))
