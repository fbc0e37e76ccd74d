-- `tries::clock::advance_from` meets its contract.
use mathlib.Core.Path.{ap, sym, ◌∙◌}
use mathlib.Core.Bool.{Bool}
use Prim.Native.Nat.{◌+◌}
use borrow.Author.Tests.{eq-eqb, ne_eqb}
use Rattle.basics.specs.Choice.{pick}
use Rattle.basics.specs.declared.Refusal.TheVariants.{WriteError}
use Rattle.ids.specs.Ids.{lamport}
use Rattle.codec.specs.declared.Raw.{Raw}
use Rattle.bodies.specs.Bodies.{value_record}
use Rattle.decisions.specs.declared.Decision.{Decision}
use Rattle.decisions.specs.Decisions.{refuse, write}
use Rattle.tries.specs.Tries.{lamport_max, advance_from}
use Rattle.tries.proofs.clock.advance_from.Goals as goal

pub returns-then-most-eq-LAMPORT_MAX : goal.returns-then-most-eq-LAMPORT_MAX
unfolding advance_from
returns-then-most-eq-LAMPORT_MAX c =
    let by : Bool → Decision = λ b. let a = c.args in pick b (refuse WriteError) (write a.room (value_record lamport (a.most + 1)) (a.most + 1)) in
    sym (ap by (eq-eqb c.args.most lamport_max c.if-most-eq-LAMPORT_MAX.true))

pub returns : goal.returns
unfolding advance_from
returns c =
    let by : Bool → Decision = λ b. let a = c.args in pick b (refuse WriteError) (write a.room (value_record lamport (a.most + 1)) (a.most + 1)) in
    let a = c.args in
    c.writes.ensures
    ∙ ap (λ (r : Raw). write a.room r (a.most + 1)) c.value_record.ensures
    ∙ sym (ap by (ne_eqb a.most lamport_max c.if-most-eq-LAMPORT_MAX.false))
