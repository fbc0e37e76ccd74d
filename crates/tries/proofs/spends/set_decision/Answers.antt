-- `tries::spends::set_decision` meets its contract.
use mathlib.Core.Path.{◌≡◌, ap, sym, ◌∙◌}
use mathlib.Core.Bool.{Bool, not, ◌&&◌}
use Prim.Native.Nat.{ℕ}
use lib.Dec.{eqb}
use borrow.Author.Tests.{eq-eqb, ne_eqb}
use Rattle.std.specs.Prelude.{is_some}
use Rattle.basics.specs.Choice.{pick}
use Rattle.ids.specs.declared.CounterState.{CounterState}
use Rattle.ids.specs.Counters.{remaining_of, reset_of}
use Rattle.codec.specs.declared.Raw.{Raw}
use Rattle.bodies.specs.Bodies.{counter_record}
use Rattle.decisions.specs.declared.Decision.{Decision}
use Rattle.decisions.specs.Decisions.{give, write}
use Rattle.tries.specs.Tries.{start_of, set_decision}
use Rattle.tries.proofs.spends.set_decision.Goals as goal

pub returns-then-is_none : goal.returns-then-is_none
unfolding set_decision
returns-then-is_none c =
    let counter : CounterState = start_of c.args.held c.args.tries in
    let written : Decision = let a = c.args in write a.room (counter_record a.credential (reset_of counter a.tries)) 0 in
    let written_is : c.writes-written.result ≡ written = let a = c.args in
    c.writes-written.ensures
    ∙ ap (λ (x : Raw). write a.room x 0)
    (c.counter_record.ensures
    ∙ ap (counter_record a.credential)
    (c.after_reset-new.ensures ∙ ap (λ (s : CounterState). reset_of s a.tries) c.start-s.ensures)) in
    let by : (b : Bool) → (is_some c.args.held && eqb (remaining_of counter) c.args.tries) ≡ b
    → set_decision c.args.held c.args.room c.args.credential c.args.tries
    ≡ pick b (give 0) written = λ b e. ap (λ (x : Bool). pick x (give 0) written) e in
    let a = c.args in
    written_is ∙ sym (by _ (ap (λ (b : Bool). b && eqb (remaining_of counter) a.tries) (c.is_none.ensures ∙ ap not c.if-is_none.true)))

pub returns-then-is_same : goal.returns-then-is_same
unfolding set_decision
returns-then-is_same c =
    let counter : CounterState = start_of c.args.held c.args.tries in
    let written : Decision = let a = c.args in write a.room (counter_record a.credential (reset_of counter a.tries)) 0 in
    let by : (b : Bool) → (is_some c.args.held && eqb (remaining_of counter) c.args.tries) ≡ b
    → set_decision c.args.held c.args.room c.args.credential c.args.tries
    ≡ pick b (give 0) written = λ b e. ap (λ (x : Bool). pick x (give 0) written) e in
    let left : (b : Bool) → let w =
    c in let a = w.args in eqb c.remaining-left.result a.tries ≡ b → (is_some a.held && eqb (remaining_of counter) a.tries) ≡ b = λ b e. let w = c in
    let a = w.args in
    let m = w in
    ap (λ (x : Bool). x && eqb (remaining_of counter) a.tries) (c.is_none.ensures ∙ ap not c.if-is_none.false)
    ∙ ap (λ (n : ℕ). eqb n a.tries) (sym (c.remaining-left.ensures ∙ ap remaining_of m.start-s.ensures)) ∙ e in
    sym (by _ (left _ (eq-eqb c.remaining-left.result c.args.tries c.if-is_same.true)))

pub returns : goal.returns
unfolding set_decision
returns c =
    let counter : CounterState = start_of c.args.held c.args.tries in
    let written : Decision = let a = c.args in write a.room (counter_record a.credential (reset_of counter a.tries)) 0 in
    let written_is : c.writes-written.result ≡ written = let r = c in
    let a = c.args in
    c.writes-written.ensures
    ∙ ap (λ (x : Raw). write a.room x 0)
    (c.counter_record.ensures
    ∙ ap (counter_record a.credential)
    (r.after_reset-new.ensures ∙ ap (λ (s : CounterState). reset_of s a.tries) r.start-s.ensures)) in
    let by : (b : Bool) → (is_some c.args.held && eqb (remaining_of counter) c.args.tries) ≡ b
    → set_decision c.args.held c.args.room c.args.credential c.args.tries
    ≡ pick b (give 0) written = λ b e. ap (λ (x : Bool). pick x (give 0) written) e in
    let left : (b : Bool) → let w =
    c in let a = w.args in eqb c.remaining-left.result a.tries ≡ b → (is_some a.held && eqb (remaining_of counter) a.tries) ≡ b = λ b e. let w = c in
    let a = w.args in
    let m = w in
    ap (λ (x : Bool). x && eqb (remaining_of counter) a.tries) (c.is_none.ensures ∙ ap not c.if-is_none.false)
    ∙ ap (λ (n : ℕ). eqb n a.tries) (sym (c.remaining-left.ensures ∙ ap remaining_of m.start-s.ensures)) ∙ e in
    written_is ∙ sym (by _ (left _ (ne_eqb c.remaining-left.result c.args.tries c.if-is_same.false)))
