-- `script::words::end` meets its contract.
use Rattle.std.proofs.Common.{rules, ◌≡◌, sym, ap, ◌∙◌, ◌+◌, ◌-◌, length, arith, drop, length-drop, inl, inr}
use lib.Seq.{take_all}
use borrow.Author.Tests.{tests}
use Rattle.std.specs.Prelude.{◌≢◌}
use Rattle.std.proofs.lemmas.Iterator.{IsFirst-from_position, YieldsList-from_slice}
use Rattle.script.specs.Words.{up_to}
use Rattle.script.proofs.WordsEnds.{end_outside, before_stop}
use Rattle.script.proofs.words.end.Goals as goal

pub returns-in_default : goal.returns-in_default
returns-in_default c =
    let s = c.args in
    elim c.in_default.ensures.lookup.0 [ inl h ↦ sym (end_outside s.stop s.at s.text.now h) | inr h ↦ absurd (omega arith) ]

pub returns : goal.returns
returns c =
    let s = c.args in
    let text = s.text.now in
    let rest = c.in-Some.rest.now in
    let first =
    IsFirst-from_position _ _ c.position.result (λ b. b ≡ s.stop) (λ b. b ≢ s.stop) c.position.ensures.ran (YieldsList-from_slice rest cc)
    (λ x q k. search (rules, tests))
    (λ x q k. search (rules, tests)) in
    let part = c.in-Some.ensures.lookup.0 in
    let whole = part.2 ∙ take_all (length text - s.at) (drop s.at text) (omega (arith, length-drop s.at text)) in
    ap (λ n. s.at + n)
    (c.unwrap_or.ensures ∙ sym (before_stop s.stop rest c.position.result first) ∙ ap (λ l. length (up_to s.stop l)) whole)
