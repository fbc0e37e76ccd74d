-- `reads::anchors::anchor` meets its contract.
use mathlib.Core.Path.{◌≡◌, sym, ◌∙◌}
use mathlib.Core.Bool.{true}
use Rattle.std.proofs.Common.{rules}
use Rattle.std.specs.Prelude.{None, Result, Ok}
use Rattle.std.proofs.lemmas.Result.{err_from_is_err_and}
use Rattle.basics.proofs.SaysLaws.{and_says}
use Rattle.basics.specs.Says.{option_says}
use Rattle.basics.specs.declared.Refusal.{Refusal}
use Rattle.ids.specs.Ids.{anchor_tag}
use Rattle.bodies.specs.Bodies.{anchor_in}
use Rattle.records.specs.declared.State.{State}
use Rattle.reads.specs.declared.Entry.{Entry}
use Rattle.reads.specs.Entering.{entry_of}
use Rattle.reads.specs.Reads.{held_by, read_in, anchor_of}
use Rattle.reads.proofs.ReadsHeld.{held-refused, held-in}
use Rattle.reads.proofs.ReadsSays.{anchor-says}
use Rattle.reads.proofs.anchors.anchor.Goals as goal
use Rattle.reads.proofs.anchors.anchor.Goals.{After-enter, In_ok-e}

entry_is : (c : After-enter) (x : Result Entry Refusal) → c.enter.result ≡ x → entry_of 16 c.args.log true anchor_tag 0 ≡ x
entry_is c x e = sym c.enter.ensures ∙ e

-- what a log in this state says, where the tests let the call in
let_in : (c : In_ok-e) (z : State) → c.args.log.state ≡ z → read_in anchor_in (held_by (Ok None) z c.in_ok-e.e.held) ≡ anchor_of c.args.log
unfolding anchor_of
let_in c z e =
    let a = c.args in
    held-in anchor_in (Ok None) a.log true anchor_tag 0 c.in_ok-e.e z
    (entry_is (goal.at.In_ok-e c).After-enter _ c.in_ok-e.was) e

pub returns-in_err-e : goal.returns-in_err-e
unfolding anchor_of
returns-in_err-e c =
    let a = c.args in
    let p = err_from_is_err_and c.from_residual.result c.from_residual.ensures.1 in
    and_says option_says (anchor-says a.log)
    (rw (p.1, p.2)
    (held-refused anchor_in (Ok None) a.log true anchor_tag 0 _
    (entry_is (goal.at.returns-in_err-e c).After-enter _ c.in_err-e.was)))

pub returns-in-Unformatted : goal.returns-in-Unformatted
returns-in-Unformatted c =
    and_says option_says (anchor-says c.args.log) (let_in (goal.at.returns-in-Unformatted c).In_ok-e _ c.in-Unformatted.is)

pub returns-in-Failed : goal.returns-in-Failed
returns-in-Failed c = and_says option_says (anchor-says c.args.log) (let_in (goal.at.returns-in-Failed c).In_ok-e _ c.in-Failed.is)

pub returns-in-Active : goal.returns-in-Active
returns-in-Active c =
    and_says option_says (anchor-says c.args.log) (search rules ∙ let_in (goal.at.returns-in-Active c).In_ok-e _ c.in-Active.is)
