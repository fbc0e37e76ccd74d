-- `tries::spends::spend_from` meets its contract.
use mathlib.Core.Path.{◌≡◌, ap, ap₂, sym, ◌∙◌}
use mathlib.Core.Bool.{Bool}
use Prim.Native.Nat.{ℕ}
use lib.Dec.{eqb}
use borrow.Author.Tests.{eq-eqb, ne_eqb}
use Rattle.basics.specs.Choice.{pick}
use Rattle.std.specs.Prelude.{Result}
use Rattle.basics.specs.declared.Refusal.{Refusal}
use Rattle.ids.specs.declared.CounterState.{CounterState}
use Rattle.ids.specs.Counters.{remaining_of, failed_of}
use Rattle.codec.specs.declared.Raw.{Raw}
use Rattle.decisions.specs.Decisions.{give, write}
use Rattle.tries.specs.Tries.{spent_by, spend_from}
use Rattle.tries.proofs.spends.spend_from.Goals as goal

pub returns-then-is_none_left : goal.returns-then-is_none_left
unfolding spend_from
returns-then-is_none_left c =
    let a = c.args in
    sym
    (ap (λ (b : Bool). pick b (give 0) (spent_by a.room a.credential (remaining_of a.s) (failed_of a.s)))
    (ap (λ (n : ℕ). eqb n 0) (sym c.remaining-before.ensures) ∙ eq-eqb c.remaining-before.result 0 c.if-is_none_left.true))

pub returns-in-Err : goal.returns-in-Err
unfolding spend_from
returns-in-Err c =
    let spent : (x : Result CounterState Refusal) → c.after_failure.result ≡ x → let a =
    c.args in spent_by a.room a.credential c.remaining-before.result x ≡ spend_from a.s a.room a.credential = λ x e. let a = c.args in
    ap₂ (λ (n : ℕ) (y : Result CounterState Refusal). spent_by a.room a.credential n y) c.remaining-before.ensures (sym e ∙ c.after_failure.ensures.0)
    ∙ sym
    (ap (λ (b : Bool). pick b (give 0) (spent_by a.room a.credential (remaining_of a.s) (failed_of a.s)))
    (ap (λ (n : ℕ). eqb n 0) (sym c.remaining-before.ensures) ∙ ne_eqb c.remaining-before.result 0 c.if-is_none_left.false)) in
    spent _ c.in-Err.is

pub returns-in-Ok : goal.returns-in-Ok
unfolding spend_from
returns-in-Ok c =
    let spent : (x : Result CounterState Refusal) → c.after_failure.result ≡ x → let a =
    c.args in spent_by a.room a.credential c.remaining-before.result x ≡ spend_from a.s a.room a.credential = λ x e. let r = c in
    let a = r.args in
    ap₂ (λ (n : ℕ) (y : Result CounterState Refusal). spent_by a.room a.credential n y) r.remaining-before.ensures (sym e ∙ c.after_failure.ensures.0)
    ∙ sym
    (ap (λ (b : Bool). pick b (give 0) (spent_by a.room a.credential (remaining_of a.s) (failed_of a.s)))
    (ap (λ (n : ℕ). eqb n 0) (sym r.remaining-before.ensures) ∙ ne_eqb r.remaining-before.result 0 c.if-is_none_left.false)) in
    c.writes.ensures
    ∙ ap (λ (r : Raw). write c.args.room r c.remaining-before.result) c.counter_record.ensures
    ∙ spent _ c.in-Ok.is
