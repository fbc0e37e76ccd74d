-- What comes of a decision, by the state of the log.
use mathlib.Core.Path.{◌≡◌, refl, ap, ◌∙◌}
use mathlib.Core.Bool.{true, false≢true}
use Prim.Native.Nat.{ℕ}
use Rattle.std.specs.Prelude.{Result, Ok, Err}
use Rattle.basics.specs.Answers.{all_done}
use Rattle.basics.specs.declared.Refusal.{Refusal}
use Rattle.basics.specs.declared.Refusal.TheVariants.{NotFormatted, ReadError}
use Rattle.codec.specs.declared.Raw.{Raw}
use Rattle.flash.specs.Run.{Flash}
use Rattle.records.specs.declared.State.{State}
use Rattle.records.specs.declared.State.TheVariants.{Unformatted, Failed, Active}
use Rattle.records.specs.declared.Log.{Log}
use Rattle.decisions.specs.declared.Decision.{Decision}
use Rattle.decisions.specs.declared.Decision.TheVariants.{Refuse, Give, Write}
use Rattle.decisions.specs.Decisions.{writes_record, record_in, reply_in, when_active}
use Rattle.decisions.specs.Outcomes.{refused}
use Rattle.decisions.specs.Performing.{appended, performed}
use Rattle.decisions.specs.Ready.{performed_on}

module _ (decided : Result (ℕ × Decision) Refusal) (n : ℕ) (log : Log) (f : Flash) where
  module _ (at : ℕ) (d : Decision) (is-decided : decided ≡ Ok (at, d)) where
    on-state : (s : State) → log.state ≡ s → performed_on decided n log f ≡ performed (when_active s d) n log f
    on-state s h =
        ap (λ (x : Result (ℕ × Decision) Refusal). performed_on x n log f) is-decided ∙ ap (λ (x : State). performed (when_active x d) n log f) h

    pub on-unformatted : log.state ≡ Unformatted → performed_on decided n log f ≡ refused (Err NotFormatted) log f
    unfolding performed
    on-unformatted = on-state Unformatted

    pub on-failed : log.state ≡ Failed → performed_on decided n log f ≡ refused (Err ReadError) log f
    unfolding performed
    on-failed = on-state Failed

    module _ (sector seq head : ℕ) (active : log.state ≡ Active sector seq head) where
      on-active : (e : Decision) → d ≡ e → performed_on decided n log f ≡ performed e n log f
      on-active e h = on-state (Active sector seq head) active ∙ ap (λ (x : Decision). performed x n log f) h

      pub on-refused : (r : Refusal) → d ≡ Refuse r → performed_on decided n log f ≡ refused (Err r) log f
      unfolding performed
      on-refused r = on-active (Refuse r)

      pub on-given : (value : ℕ) → d ≡ Give value
          → performed_on decided n log f ≡ record { answer = all_done; value = value; log = log; flash = f }
      unfolding performed
      on-given value = on-active (Give value)

      pub on-written : (r : Raw) (value : ℕ) → d ≡ Write r value
          → performed_on decided n log f ≡ appended (Active sector seq head) n r value log f
      unfolding performed
      on-written r value h = on-active (Write r value) h ∙ ap (λ (s : State). appended s n r value log f) active

-- a decision that writes is an append
pub performed-writes : (d : Decision) → writes_record d ≡ true → (n : ℕ) (log : Log) (f : Flash)
    → performed d n log f ≡ appended log.state n (record_in d) (reply_in d) log f
unfolding performed
performed-writes (Refuse r) e n log f = absurd (false≢true e)
performed-writes (Give value) e n log f = absurd (false≢true e)
performed-writes (Write r value) e n log f = refl
