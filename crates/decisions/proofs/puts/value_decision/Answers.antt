-- `decisions::puts::value_decision` meets its contract.
use mathlib.Core.Path.{◌≡◌, sym, ap, ◌∙◌}
use mathlib.Core.Bool.{Bool}
use native.Mathlib.Omega.{arith}
use Rattle.basics.specs.Choice.{pick}
use Rattle.basics.specs.declared.Refusal.TheVariants.{IntegrityFailure}
use Rattle.codec.specs.declared.Raw.{Raw}
use Rattle.bodies.specs.Bodies.{value_record}
use Rattle.ids.specs.Ids.{value_tag, is_monotonic}
use Rattle.decisions.specs.declared.Decision.{Decision}
use Rattle.decisions.specs.Decisions.{refuse, write, value_over, value_decision}
use Rattle.decisions.proofs.DecisionsLaws.{value_written, value-first, value-over, over-same, over-above, over_below}
use Rattle.decisions.proofs.puts.value_decision.Goals as goal

pub returns-in_default : goal.returns-in_default
returns-in_default c =
    let written : let a =
    c.args in c.writes-written.result ≡ write a.room (value_record a.id a.new) 0 = c.writes-written.ensures
    ∙ ap (λ (r : Raw). write c.args.room r 0) c.value_record.ensures in
    let a = c.args in
    written ∙ sym (value-first a.held a.room a.id a.new c.in_default.is)

pub returns-then-new-old : goal.returns-then-new-old
returns-then-new-old c =
    let new-written : Decision = value_written c.args.held c.args.room c.args.id c.args.new in
    let over : let s = c in let a =
    s.args in value_decision a.held a.room a.id a.new ≡ value_over a.id a.new c.value_of-old.result new-written = let a = c.args in
    value-over a.held a.room a.id a.new c.in-Some.raw c.in-Some.is c.value_of-old.result
    c.value_of-old.ensures in
    let s = c in
    sym (over ∙ over-same s.args.id s.args.new c.value_of-old.result new-written c.if-new-old.true)

pub returns-then-old-new : goal.returns-then-old-new
returns-then-old-new c =
    let written : let a =
    c.args in c.writes-written.result ≡ write a.room (value_record a.id a.new) 0 = c.writes-written.ensures
    ∙ ap (λ (r : Raw). write c.args.room r 0) c.value_record.ensures in
    let new-written : Decision = value_written c.args.held c.args.room c.args.id c.args.new in
    let over : let s = c in let a =
    s.args in value_decision a.held a.room a.id a.new ≡ value_over a.id a.new c.value_of-old.result new-written = let a = c.args in
    value-over a.held a.room a.id a.new c.in-Some.raw c.in-Some.is c.value_of-old.result
    c.value_of-old.ensures in
    let s = c in
    written ∙ sym (over ∙ over-above s.args.id s.args.new c.value_of-old.result new-written c.if-old-new.true)

pub returns-then-is_monotonic : goal.returns-then-is_monotonic
returns-then-is_monotonic c =
    let new-written : Decision = value_written c.args.held c.args.room c.args.id c.args.new in
    let over : let s = c in let a =
    s.args in value_decision a.held a.room a.id a.new ≡ value_over a.id a.new c.value_of-old.result new-written = let a = c.args in
    value-over a.held a.room a.id a.new c.in-Some.raw c.in-Some.is c.value_of-old.result
    c.value_of-old.ensures in
    let below : let s = c in let a =
    s.args in value_decision a.held a.room a.id a.new ≡ pick (is_monotonic value_tag a.id) (refuse IntegrityFailure) new-written = let s = c in
    over
    ∙ over_below s.args.id s.args.new c.value_of-old.result new-written (omega (arith, c.if-old-new.false, c.if-new-old.false)) in
    let falls = sym c.is_monotonic.ensures ∙ c.if-is_monotonic.true in
    sym (below ∙ ap (λ (b : Bool). pick b (refuse IntegrityFailure) new-written) falls)

pub returns : goal.returns
returns c =
    let written : let a =
    c.args in c.writes-written.result ≡ write a.room (value_record a.id a.new) 0 = c.writes-written.ensures
    ∙ ap (λ (r : Raw). write c.args.room r 0) c.value_record.ensures in
    let new-written : Decision = value_written c.args.held c.args.room c.args.id c.args.new in
    let over : let s = c in let a =
    s.args in value_decision a.held a.room a.id a.new ≡ value_over a.id a.new c.value_of-old.result new-written = let a = c.args in
    value-over a.held a.room a.id a.new c.in-Some.raw c.in-Some.is c.value_of-old.result
    c.value_of-old.ensures in
    let below : let s = c in let a =
    s.args in value_decision a.held a.room a.id a.new ≡ pick (is_monotonic value_tag a.id) (refuse IntegrityFailure) new-written = let s = c in
    over
    ∙ over_below s.args.id s.args.new c.value_of-old.result new-written (omega (arith, c.if-old-new.false, c.if-new-old.false)) in
    let free = sym c.is_monotonic.ensures ∙ c.if-is_monotonic.false in
    written
    ∙ sym (below ∙ ap (λ (b : Bool). pick b (refuse IntegrityFailure) new-written) free)
