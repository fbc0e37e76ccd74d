-- The kinds of calls. Five are alike: the tests, then what is decided on the record of one key. put_anchor and format stand apart.
use Rattle.std.specs.Prelude.{Option}
use mathlib.Core.Path.{◌≡◌}
use mathlib.Core.Bool.{Bool, true}
use mathlib.Core.List.{List}
use Prim.Native.Nat.{ℕ, ◌+◌}
use Rattle.ids.specs.declared.Anchor.{Anchor}
use Rattle.ids.specs.Ids.{counter_tag, value_tag, lamport, is_credential, is_value}
use Rattle.ids.specs.Counters.{one_more, reset_of}
use Rattle.codec.specs.declared.Raw.{Raw}
use Rattle.bodies.specs.Bodies.{counter_record, value_record}
use Rattle.flash.specs.declared.Plan.{Plan}
use Rattle.records.specs.declared.State.{State}
use Rattle.records.specs.declared.Log.{Log}
use Rattle.records.specs.Table.{limit, has_room, held_of}
use Rattle.decisions.specs.declared.Decision.{Decision}
use Rattle.decisions.specs.Decisions.{put_decision, value_decision}
use Rattle.reads.specs.Entering.{room_for}
use Rattle.decisions.specs.declared.seeds.Seed.{Seed}
use Rattle.decisions.specs.Outcomes.{Outcome, entered}
use Rattle.decisions.specs.Performing.{decided}
use Rattle.counter_log.specs.Calls.{put_of, put_value_of}
use Rattle.tries.specs.Tries.{start_of, spend_decision, spend_of, set_decision, set_of, seen_of, advance_decision, advance_of}
use Rattle.demands.specs.Seen.{Seen, seen}
use Rattle.demands.specs.Calls.{Call, put, put-value, put-anchor, format, spend, set-tries, advance_lamport, outcome_of, Typed}
use Rattle.demands.specs.Calls.{NoEffect, record_of, appends_to}
use Rattle.demands.specs.Demand1.{known_in, by_state, state_number}
use Rattle.demands.specs.Figures.{decision_of}
use Rattle.demands.proofs.CallsDeciding.{Decided, put-decided, value-decided, Sound, put-sound, value-sound}
use Rattle.demands.proofs.CallsTrying.{spend-decided, set_decided, advance_decided, spend-sound, set-sound, advance_sound}

-- all that the statements say of a call
pub record Shape : Type 1 where
  pub typed : Type 0
  pub known : Bool
  pub state_says : State → ℕ
  pub decision : List Raw → Decision
  pub writes : List Raw → Raw
  pub appends : List ℕ → Log → Plan → State
  pub left : Log → Seen → Type 0
  pub outcome : List ℕ → Log → Plan → Outcome

abbrev pub shape_of : Call → Shape
shape_of c = record {
  typed = Typed c;
  known = known_in c;
  state_says = state_number c;
  decision = decision_of c;
  writes = record_of c;
  appends = appends_to c;
  left = NoEffect c;
  outcome = outcome_of c;
}

-- a call that decides on the record of a key, and writes r where it writes
abbrev pub keyed : Type 0 → Bool → (tag id : ℕ) → (Option Raw → Bool → Decision) → (List Raw → Raw) → Shape
keyed typed known tag id d r = record {
  typed = typed;
  known = known;
  state_says = by_state 4 5 0;
  decision = λ t. d (held_of tag id t) (room_for tag id t);
  writes = r;
  appends = λ image log plan. log.state;
  left = λ log z. z ≡ seen log;
  outcome = λ image log plan. entered image log plan known (decided tag id d);
}

-- what is known of its decision: whatever the log holds, it writes r or nothing, and r only where there is room for it; Q holds then
pub record Decides (typed : Type 0) (tag id : ℕ) (d : Option Raw → Bool → Decision) (r : List Raw → Raw) : Type 1 where
  pub Q : List Raw → Type 0
  pub made : (t : List Raw) → Decided (room_for tag id t) (r t) (Q t) (d (held_of tag id t) (room_for tag id t))
  pub room : (t : List Raw) → room_for tag id t ≡ true → has_room limit (r t) t ≡ true
  pub sound : typed → Sound tag id d r

-- what holds of each kind holds of every call
pub by_kind : (P : Shape → Type 0)
    → ((typed : Type 0) (known : Bool) (tag id : ℕ) (d : Option Raw → Bool → Decision) (r : List Raw → Raw) → Decides typed tag id d r
    → P (keyed typed known tag id d r))
    → ((new : Anchor) → P (shape_of (put-anchor new))) → ((seeds : List Seed) (count : ℕ) → P (shape_of (format seeds count))) → (c : Call)
    → P (shape_of c)
unfolding put_of put_value_of spend_of set_of advance_of room_for
by_kind P key anchor seeded (put credential new) =
    key _ (is_credential credential) counter_tag credential (λ (held : Option Raw) (room : Bool). put_decision held room credential new)
    (λ t. counter_record credential new)
    (record {
      Q = _;
      made = λ t. put-decided (held_of counter_tag credential t) (room_for counter_tag credential t) credential new;
      room = λ t e. e;
      sound
          = λ typed. put-sound credential new typed.0 typed.1;
    })
by_kind P key anchor seeded (put-value id new) =
    key _ (is_value id) value_tag id (λ (held : Option Raw) (room : Bool). value_decision held room id new) (λ t. value_record id new)
    (record {
      Q = _;
      made = λ t. value-decided (held_of value_tag id t) (room_for value_tag id t) id new;
      room = λ t e. e;
      sound
          = λ typed. value-sound id new typed.0 typed.1;
    })
by_kind P key anchor seeded (put-anchor new) = anchor new
by_kind P key anchor seeded (format seeds count) = seeded seeds count
by_kind P key anchor seeded (spend credential current) =
    key _ (is_credential credential) counter_tag credential (λ (held : Option Raw) (room : Bool). spend_decision held room credential current)
    (λ t. counter_record credential (one_more (start_of (held_of counter_tag credential t) current)))
    (record {
      Q = _;
      made = λ t. spend-decided (room_for counter_tag credential t) credential (start_of (held_of counter_tag credential t) current);
      room =
          λ t e. e;
      sound = λ typed. spend-sound credential current typed.0 typed.1;
    })
by_kind P key anchor seeded (set-tries credential tries) =
    key _ (is_credential credential) counter_tag credential (λ (held : Option Raw) (room : Bool). set_decision held room credential tries)
    (λ t. counter_record credential (reset_of (start_of (held_of counter_tag credential t) tries) tries))
    (record {
      Q = _;
      made = λ t. set_decided (held_of counter_tag credential t) (room_for counter_tag credential t) credential tries;
      room = λ t e. e;
      sound = λ typed. set-sound credential tries typed.0 typed.1;
    })
by_kind P key anchor seeded (advance_lamport latest) =
    key _ true value_tag lamport (λ (held : Option Raw) (room : Bool). advance_decision held room latest)
    (λ t. value_record lamport (seen_of (held_of value_tag lamport t) latest + 1))
    (record {
      Q = _;
      made = λ t. advance_decided (held_of value_tag lamport t) (room_for value_tag lamport t) latest;
      room = λ t e. e;
      sound = λ typed.
          advance_sound latest typed;
    })
