-- `decisions::seeds::place` meets its contract.
use Rattle.std.proofs.Common.{◌≡◌, ℕ, sym, ap, ◌∙◌, arith, rules, tests, take, length, true, false}
use lib.Seq.{length-take-le}
use Rattle.std.specs.Option.{unwrap_or}
use Rattle.std.proofs.lemmas.Iterator.{YieldsList-from_slice, IsFirst-from_position}
use Rattle.records.specs.Table.{has_key}
use Rattle.decisions.proofs.SeedsLaws.{place_first}
use Rattle.decisions.proofs.seeds.place.Goals as goal

pub returns : goal.returns
returns c =
    let a = c.args in
    let t = take a.count a.table in
    let long : length t ≡ a.count = length-take-le a.count a.table (omega (arith, c.requires, c.well_formed.0.1.0.1)) in
    c.unwrap_or.ensures
    ∙ ap (λ (n : ℕ). unwrap_or c.position.result n) (sym long)
    ∙ sym (place_first a.tag a.id t c.position.result
    (IsFirst-from_position _ _ c.position.result (λ e. has_key a.tag a.id e ≡ true) (λ e. has_key a.tag a.id e ≡ false)
    c.position.ensures.ran (YieldsList-from_slice t cc) (λ x q k. search (rules, tests)) (λ x q k. search (rules, tests))))
