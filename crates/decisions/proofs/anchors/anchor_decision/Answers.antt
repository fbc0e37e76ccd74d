-- `decisions::anchors::anchor_decision` meets its contract.
use mathlib.Core.Path.{◌≡◌, sym, ◌∙◌}
use mathlib.Core.Bool.{false}
use Rattle.decisions.specs.Decisions.{anchor_write, same_anchor, anchor_over, anchor_decision}
use Rattle.decisions.proofs.DecisionsLaws.{anchor-first, anchor-over, anchor-same, anchor-new_gen, anchor-below, anchor-above}
use Rattle.decisions.proofs.anchors.anchor_decision.Goals as goal

pub returns-in_default : goal.returns-in_default
returns-in_default c =
    let a = c.args in
    c.anchor_write-written.ensures ∙ sym (anchor-first a.held a.room a.new c.in_default.is)

pub returns-then-is_same : goal.returns-then-is_same
returns-then-is_same c =
    let over : let a = c.args in anchor_decision a.held a.room a.new ≡ anchor_over a.new c.anchor_of-old.result (anchor_write a.room a.new) = let a = c.args in
    anchor-over a.held a.room a.new c.in-Some.raw c.in-Some.is c.anchor_of-old.result c.anchor_of-old.ensures in
    let a = c.args in
    let same = sym c.eq-is_same.ensures ∙ c.if-is_same.true in
    sym (over ∙ anchor-same a.new c.anchor_of-old.result (anchor_write a.room a.new) same)

pub returns-then-new-old : goal.returns-then-new-old
returns-then-new-old c =
    let over : let a = c.args in anchor_decision a.held a.room a.new ≡ anchor_over a.new c.anchor_of-old.result (anchor_write a.room a.new) = let a = c.args in
    anchor-over a.held a.room a.new c.in-Some.raw c.in-Some.is c.anchor_of-old.result c.anchor_of-old.ensures in
    let differs : same_anchor (c).args.new c.anchor_of-old.result ≡ false = sym c.eq-is_same.ensures ∙ c.if-is_same.false in
    let a = c.args in
    c.anchor_write-written.ensures
    ∙ sym
    (over ∙ anchor-new_gen a.new c.anchor_of-old.result (anchor_write a.room a.new) differs c.if-new-old.true)

pub returns-then-new-old-2 : goal.returns-then-new-old-2
returns-then-new-old-2 c =
    let over : let a = c.args in anchor_decision a.held a.room a.new ≡ anchor_over a.new c.anchor_of-old.result (anchor_write a.room a.new) = let a = c.args in
    anchor-over a.held a.room a.new c.in-Some.raw c.in-Some.is c.anchor_of-old.result c.anchor_of-old.ensures in
    let differs : same_anchor (c).args.new c.anchor_of-old.result ≡ false = sym c.eq-is_same.ensures ∙ c.if-is_same.false in
    let a = c.args in
    sym
    (over
    ∙ anchor-below a.new c.anchor_of-old.result (anchor_write a.room a.new) differs c.if-new-old.false
    c.if-new-old-2.true)

pub returns : goal.returns
returns c =
    let over : let a = c.args in anchor_decision a.held a.room a.new ≡ anchor_over a.new c.anchor_of-old.result (anchor_write a.room a.new) = let a = c.args in
    anchor-over a.held a.room a.new c.in-Some.raw c.in-Some.is c.anchor_of-old.result c.anchor_of-old.ensures in
    let differs : same_anchor (c).args.new c.anchor_of-old.result ≡ false = sym c.eq-is_same.ensures ∙ c.if-is_same.false in
    let a = c.args in
    c.anchor_write-written.ensures
    ∙ sym
    (over
    ∙ anchor-above a.new c.anchor_of-old.result (anchor_write a.room a.new) differs c.if-new-old.false c.if-new-old-2.false)
