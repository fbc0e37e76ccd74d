-- `decisions::puts::put_decision` meets its contract.
use mathlib.Core.Path.{◌≡◌, sym, ap, ◌∙◌}
use mathlib.Core.Bool.{Bool}
use Rattle.codec.specs.declared.Raw.{Raw}
use Rattle.bodies.specs.Bodies.{counter_record}
use Rattle.basics.specs.Choice.{pick}
use Rattle.decisions.specs.Decisions.{give, write, same_counter, put_decision}
use Rattle.decisions.proofs.DecisionsLaws.{put_written, put_first, put-below, put-over}
use Rattle.decisions.proofs.puts.put_decision.Goals as goal

pub returns-in_default : goal.returns-in_default
returns-in_default c =
    let written : let a =
    c.args in c.writes-written.result ≡ write a.room (counter_record a.credential a.new) 0 = c.writes-written.ensures
    ∙ ap (λ (r : Raw). write c.args.room r 0) c.counter_record.ensures in
    let a = c.args in
    written ∙ sym (put_first a.held a.room a.credential a.new c.in_default.is)

pub returns-then-new-old : goal.returns-then-new-old
returns-then-new-old c =
    let a = c.args in
    sym
    (put-below a.held a.room a.credential a.new c.in-Some.raw c.in-Some.is c.counter_of-old.result c.counter_of-old.ensures
    c.if-new-old.true)

pub returns-then-is_same : goal.returns-then-is_same
returns-then-is_same c =
    let not-below : let r =
    c in let a = r.args in put_decision a.held a.room a.credential a.new
    ≡ pick (same_counter a.new r.counter_of-old.result) (give 0) (put_written a.held a.room a.credential a.new) = let a = c.args in
    put-over a.held a.room a.credential a.new c.in-Some.raw c.in-Some.is c.counter_of-old.result c.counter_of-old.ensures c.if-new-old.false in
    let a = c.args in
    let same = sym c.eq-is_same.ensures ∙ c.if-is_same.true in
    sym (not-below ∙ ap (λ (b : Bool). pick b (give 0) (put_written a.held a.room a.credential a.new)) same)

pub returns : goal.returns
returns c =
    let written : let a =
    c.args in c.writes-written.result ≡ write a.room (counter_record a.credential a.new) 0 = c.writes-written.ensures
    ∙ ap (λ (r : Raw). write c.args.room r 0) c.counter_record.ensures in
    let not-below : let r =
    c in let a = r.args in put_decision a.held a.room a.credential a.new
    ≡ pick (same_counter a.new r.counter_of-old.result) (give 0) (put_written a.held a.room a.credential a.new) = let r = c in
    let a = r.args in
    put-over a.held a.room a.credential a.new c.in-Some.raw c.in-Some.is r.counter_of-old.result r.counter_of-old.ensures c.if-new-old.false in
    let a = c.args in
    let other = sym c.eq-is_same.ensures ∙ c.if-is_same.false in
    written
    ∙ sym (not-below ∙ ap (λ (b : Bool). pick b (give 0) (put_written a.held a.room a.credential a.new)) other)
