-- `decisions::seeds::seeds_known` meets its contract.
use Rattle.std.proofs.Common.{sym, ◌∙◌, rules, tests, take}
use borrow.Author.Tests.{le-leb}
use Rattle.std.proofs.lemmas.Iterator.{YieldsList-from_slice}
use Rattle.std.proofs.lemmas.Iterator.Search.{all_from_yields_List}
use Rattle.ids.specs.Ids.{is_credential}
use Rattle.decisions.proofs.SeedsLaws.{known_all}
use Rattle.decisions.proofs.seeds.seeds_known.Goals as goal

pub returns-then-count-le-SEEDS : goal.returns-then-count-le-SEEDS
returns-then-count-le-SEEDS c =
    let seeds = take c.args.count c.args.seeds in
    rw (le-leb _ _ c.if-count-le-SEEDS.true)
    (all_from_yields_List (λ s. is_credential s.credential) _ _ c.all.result c.all.ensures.ran (YieldsList-from_slice seeds cc)
    (λ x b q k. search (rules, tests))
    ∙ sym (known_all seeds))
