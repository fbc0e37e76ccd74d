-- A decision writes the record of its own key only, and only where there is room for it.
use Rattle.std.specs.Prelude.{Option, Some, None, Result, Ok, Err}
use Rattle.basics.specs.declared.Refusal.{Refusal}
use mathlib.Core.Path.{◌≡◌, refl, sym, ◌∙◌}
use mathlib.Core.Bool.{Bool, true, false, ◌&&◌, false≢true}
use Prim.Native.Nat.{ℕ}
use lib.Dec.{eqb, ltb}
use Rattle.basics.specs.Choice.{pick}
use Rattle.basics.specs.declared.Refusal.TheVariants.{WriteError, KeystoreFull, IntegrityFailure}
use Rattle.basics.proofs.ChoiceLaws.{by_test}
use Rattle.ids.specs.declared.CounterState.{CounterState}
use Rattle.ids.specs.declared.Anchor.{Anchor}
use Rattle.ids.specs.Ids.{counter_tag, value_tag, anchor_tag, anchor_seq_max, is_monotonic}
use Rattle.codec.specs.declared.Raw.{Raw}
use Rattle.bodies.specs.Bodies.{counter_record, counter_in, value_record, value_in, anchor_body, anchor_record, anchor_in}
use Rattle.decisions.specs.declared.Decision.{Decision}
use Rattle.decisions.specs.Decisions.{refuse, give, write, same_counter, put_decision, value_decision, same_anchor}
use Rattle.decisions.specs.Decisions.{writes_record, record_in}
use Rattle.decisions.specs.Decisions.{write_made, anchor_write, anchor_decision}

pub record Keyed (tag id : ℕ) (room : Bool) (d : Decision) : Type 0 where
  pub roomy : writes_record d ≡ true → room ≡ true
  pub tagged : writes_record d ≡ true → (record_in d).tag ≡ tag
  pub named : writes_record d ≡ true → (record_in d).id ≡ id

module _ (tag id : ℕ) (room : Bool) where
  -- what writes nothing
  pub silent : (d : Decision) → writes_record d ≡ false → Keyed tag id room d
  silent d e =
      let never : writes_record d ≡ true → ⊥ = λ h. false≢true (sym e ∙ h) in
      record { roomy = λ h. absurd (never h); tagged = λ h. absurd (never h); named = λ h. absurd (never h) }

  -- what writes this record
  pub keyed-write : (r : Raw) (value : ℕ) → r.tag ≡ tag → r.id ≡ id → Keyed tag id room (write room r value)
  keyed-write r value t i =
      by_test (Keyed tag id room) room _ (refuse KeystoreFull) (λ e. record { roomy = λ h. e; tagged = λ h. t; named = λ h. i })
      (λ e. silent (refuse KeystoreFull) refl)

  pub keyed-pick : (b : Bool) (x y : Decision) → Keyed tag id room x → Keyed tag id room y → Keyed tag id room (pick b x y)
  keyed-pick b x y f g = by_test (Keyed tag id room) b x y (λ e. f) (λ e. g)

pub put-keyed : (held : Option Raw) (room : Bool) (credential : ℕ) (new : CounterState)
    → Keyed counter_tag credential room (put_decision held room credential new)
unfolding put_decision
put-keyed None room credential new = keyed-write counter_tag credential room (counter_record credential new) 0 refl refl
put-keyed (Some r) room credential new =
    let old = counter_in r.body in
    let written = write room (counter_record credential new) 0 in
    let wrote = keyed-write counter_tag credential room (counter_record credential new) 0 refl refl in
    let pk = keyed-pick counter_tag credential room in
    pk (ltb new.total old.total) (refuse IntegrityFailure) (pick (same_counter new old) (give 0) written)
    (silent counter_tag credential room (refuse IntegrityFailure) refl)
    (pk (same_counter new old) (give 0) written (silent counter_tag credential room (give 0) refl) wrote)

pub value-keyed : (held : Option Raw) (room : Bool) (id new : ℕ) → Keyed value_tag id room (value_decision held room id new)
unfolding value_decision
value-keyed None room id new = keyed-write value_tag id room (value_record id new) 0 refl refl
value-keyed (Some r) room id new =
    let old = value_in r.body in
    let written = write room (value_record id new) 0 in
    let wrote = keyed-write value_tag id room (value_record id new) 0 refl refl in
    let pk = keyed-pick value_tag id room in
    pk (is_monotonic value_tag id && ltb new old) (refuse IntegrityFailure) (pick (eqb new old) (give 0) written)
    (silent value_tag id room (refuse IntegrityFailure) refl)
    (pk (eqb new old) (give 0) written (silent value_tag id room (give 0) refl) wrote)

anchor-write-keyed : (room : Bool) (new : Anchor) → Keyed anchor_tag 0 room (anchor_write room new)
unfolding anchor_write anchor_record
anchor-write-keyed room new =
    by_test (λ (m : Result Raw Refusal). Keyed anchor_tag 0 room (write_made room m)) (ltb anchor_seq_max new.head_seq) (Err WriteError)
    (Ok (record { tag = anchor_tag; id = 0; body = anchor_body new })) (λ _. silent anchor_tag 0 room (refuse WriteError) refl)
    (λ _. keyed-write anchor_tag 0 room (record { tag = anchor_tag; id = 0; body = anchor_body new }) 0 refl refl)

pub anchor-keyed : (held : Option Raw) (room : Bool) (new : Anchor) → Keyed anchor_tag 0 room (anchor_decision held room new)
unfolding anchor_decision
anchor-keyed None room new = anchor-write-keyed room new
anchor-keyed (Some r) room new =
    let old = anchor_in r.body in
    let written = anchor_write room new in
    let wrote = anchor-write-keyed room new in
    let pk = keyed-pick anchor_tag 0 room in
    let falling = eqb new.format_gen old.format_gen && ltb new.head_seq old.head_seq in
    pk (same_anchor new old) (give 0) (pick falling (refuse IntegrityFailure) written) (silent anchor_tag 0 room (give 0) refl)
    (pk falling (refuse IntegrityFailure) written (silent anchor_tag 0 room (refuse IntegrityFailure) refl) wrote)
