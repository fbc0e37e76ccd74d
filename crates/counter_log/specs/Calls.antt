-- "Writing": the calls that can write, each as its tests, its decision, and what comes of it.
use Rattle.std.specs.Prelude.{Option, Err, Bool, true, ◌&&◌, List, [], ℕ, eqb}
use Rattle.basics.specs.Choice.{pick}
use Rattle.basics.specs.Answers.{is_done}
use Rattle.basics.specs.declared.Refusal.TheVariants.{NotFormatted, ReadError, WriteError}
use Rattle.ids.specs.declared.CounterState.{CounterState}
use Rattle.ids.specs.declared.Anchor.{Anchor}
use Rattle.ids.specs.Ids.{counter_tag, value_tag, anchor_tag, is_credential, is_value}
use Rattle.codec.specs.declared.Raw.{Raw}
use Rattle.flash.specs.declared.Plan.{Plan}
use Rattle.flash.specs.Run.{Flash}
use Rattle.records.specs.declared.State.{State}
use Rattle.records.specs.declared.State.TheVariants.{Unformatted, Failed, Active}
use Rattle.records.specs.declared.Log.{Log}
use Rattle.decisions.specs.Decisions.{put_decision, value_decision, anchor_decision}
use Rattle.decisions.specs.Outcomes.{Outcome, refused, entered}
use Rattle.decisions.specs.Performing.{decided, formatted}
use Rattle.decisions.specs.declared.seeds.Seed.{Seed}
use Rattle.decisions.specs.Seeds.{seeds_known, seed_table}

-- ---- put and put_value
unfoldable pub put_of : List ℕ → Log → Plan → ℕ → CounterState → Outcome
put_of image log plan credential new =
    entered image log plan (is_credential credential)
    (decided counter_tag credential (λ (held : Option Raw) (room : Bool). put_decision held room credential new))

unfoldable pub put_value_of : List ℕ → Log → Plan → ℕ → ℕ → Outcome
put_value_of image log plan id new =
    entered image log plan (is_value id)
    (decided value_tag id (λ (held : Option Raw) (room : Bool). value_decision held room id new))

-- ---- put_anchor: "on an Unformatted log with head_seq 0 and head_slot 0, format empty first"
abbrev pub is_first : Anchor → Bool
is_first a = eqb a.head_seq 0 && eqb a.head_slot 0

abbrev pub anchor_call : Anchor → ℕ → Log → Flash → Outcome
anchor_call a = decided anchor_tag 0 (λ (held : Option Raw) (room : Bool). anchor_decision held room a)

unfoldable pub anchored_first : Anchor → ℕ → Outcome → Outcome
anchored_first a n o = pick (is_done o.answer) (anchor_call a n o.log o.flash) o

abbrev pub anchored : State → Anchor → ℕ → Log → Flash → Outcome
anchored Unformatted a n log f = pick (is_first a) (anchored_first a n (formatted [] n log f)) (refused (Err NotFormatted) log f)
anchored Failed a n log f = refused (Err ReadError) log f
anchored (Active sector seq head) a n log f = anchor_call a n log f

unfoldable pub put_anchor_of : List ℕ → Log → Plan → Anchor → Outcome
put_anchor_of image log plan a = entered image log plan true (λ (n : ℕ) (l : Log) (f : Flash). anchored l.state a n l f)

-- ---- format
-- "format on a log that isn't Unformatted: 6"
abbrev pub format_on : State → List Raw → ℕ → Log → Flash → Outcome
format_on Unformatted t n log f = formatted t n log f
format_on Failed t n log f = refused (Err WriteError) log f
format_on (Active sector seq head) t n log f = refused (Err WriteError) log f

unfoldable pub format_of : List ℕ → Log → Plan → List Seed → ℕ → Outcome
format_of image log plan seeds count =
    entered image log plan (seeds_known seeds count) (λ (n : ℕ) (l : Log) (f : Flash). format_on l.state (seed_table seeds count) n l f)
