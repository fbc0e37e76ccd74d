-- `records::lookup::look` meets its contract.
use mathlib.Core.Path.{sym, ◌∙◌}
use borrow.Author.Tests.{not-true, not-false}
use Rattle.records.proofs.FittingLooking.{no_seq, looked_of_many, bad_state, bad_places, by_keys}
use Rattle.records.proofs.lookup.look.Goals as goal

pub returns-then-has_no_seq : goal.returns-then-has_no_seq
returns-then-has_no_seq c =
    let a = c.args in
    no_seq a.sectors a.tag a.id a.log c.if-has_no_seq.true

pub returns-then-is_over : goal.returns-then-is_over
returns-then-is_over c =
    let a = c.args in
    looked_of_many a.sectors a.tag a.id a.log c.if-is_over.true

pub returns-then-not-state_fits : goal.returns-then-not-state_fits
returns-then-not-state_fits c =
    let a = c.args in
    bad_state a.sectors a.tag a.id a.log
    (sym c.state_fits.ensures ∙ not-true c.state_fits.result c.if-not-state_fits.true-raw)

pub returns-then-not-zeros_past : goal.returns-then-not-zeros_past
returns-then-not-zeros_past c =
    let a = c.args in
    bad_places a.sectors a.tag a.id a.log
    (sym c.zeros_past.ensures ∙ not-true c.zeros_past.result c.if-not-zeros_past.true-raw)

pub returns : goal.returns
returns c =
    let a = c.args in
    c.survey.ensures
    ∙ by_keys a.sectors a.tag a.id a.log
    c.if-has_no_seq.false
    c.if-is_over.false
    (sym c.state_fits.ensures ∙ not-false c.state_fits.result c.if-not-state_fits.false-raw)
    (sym c.zeros_past.ensures ∙ not-false c.zeros_past.result c.if-not-zeros_past.false-raw)
