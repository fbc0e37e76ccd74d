-- What spend, set and advance_lamport decide writes the record of their own key only, and only where there is room for it.
use Rattle.codec.specs.declared.Raw.{Raw}
use Rattle.std.specs.Prelude.{Option, Result, Ok, Err, is_some}
use mathlib.Core.Path.{refl}
use mathlib.Core.Bool.{Bool, ◌&&◌}
use Prim.Native.Nat.{ℕ, ◌+◌}
use lib.Dec.{eqb}
use Rattle.basics.specs.declared.Refusal.TheVariants.{WriteError}
use Rattle.ids.specs.declared.CounterState.{CounterState}
use Rattle.basics.specs.declared.Refusal.{Refusal}
use Rattle.ids.specs.Ids.{counter_tag, value_tag, lamport}
use Rattle.ids.specs.Counters.{remaining_of, failed_of, reset_of}
use Rattle.bodies.specs.Bodies.{counter_record, value_record}
use Rattle.decisions.specs.Decisions.{refuse, give, write}
use Rattle.decisions.proofs.DecisionsKeyed.{Keyed, silent, keyed-write, keyed-pick}
use Rattle.tries.specs.Tries.{start_of, spent_by, spend_from, set_decision, lamport_max, advance_from}

pub spend-keyed : (s : CounterState) (room : Bool) (credential : ℕ) → Keyed counter_tag credential room (spend_from s room credential)
unfolding spend_from
spend-keyed s room credential =
    keyed-pick counter_tag credential room (eqb (remaining_of s) 0) (give 0) (spent_by room credential (remaining_of s) (failed_of s))
    (silent counter_tag credential room (give 0) refl) (go (failed_of s))
  where
    go : (x : Result CounterState Refusal) → Keyed counter_tag credential room (spent_by room credential (remaining_of s) x)
    go (Err r) = silent counter_tag credential room (refuse r) refl
    go (Ok new) = keyed-write counter_tag credential room (counter_record credential new) (remaining_of s) refl refl

pub set-keyed : (held : Option Raw) (room : Bool) (credential tries : ℕ) → Keyed counter_tag credential room (set_decision held room credential tries)
unfolding set_decision
set-keyed held room credential tries =
    let r = counter_record credential (reset_of (start_of held tries) tries) in
    keyed-pick counter_tag credential room (is_some held && eqb (remaining_of (start_of held tries)) tries) (give 0) (write room r 0)
    (silent counter_tag credential room (give 0) refl)
    (keyed-write counter_tag credential room r 0 refl refl)

pub advance_keyed : (most : ℕ) (room : Bool) → Keyed value_tag lamport room (advance_from most room)
unfolding advance_from
advance_keyed most room =
    keyed-pick value_tag lamport room (eqb most lamport_max) (refuse WriteError) (write room (value_record lamport (most + 1)) (most + 1))
    (silent value_tag lamport room (refuse WriteError) refl)
    (keyed-write value_tag lamport room (value_record lamport (most + 1)) (most + 1) refl refl)
