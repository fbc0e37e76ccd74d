-- The place found is the first that holds the number.
use mathlib.Core.Path.{◌∙◌}
use lib.Dec.{eqb}
use Rattle.std.proofs.Common.{rules, tests}
use Rattle.std.proofs.lemmas.Iterator.{YieldsList-from_slice}
use Rattle.std.proofs.lemmas.Iterator.Search.{position_from_yields_List}
use Rattle.std.proofs.lemmas.Iterator.Adapters.{position_from-zero}
use Rattle.ids.specs.Ids.{credentials}
use Rattle.ids.proofs.IdsLaws.{place-position}
use Rattle.ids.proofs.meanings.place_of.Goals as goal

pub returns : goal.returns
returns c =
    position_from_yields_List (λ credential. eqb credential c.args.id) _ _ c.position.result c.position.ensures.ran
    (YieldsList-from_slice _ c.iter.ensures.rest)
    (λ x b q k. search (rules, tests))
    ∙ position_from-zero (λ x. eqb x c.args.id) credentials ∙ place-position credentials 0 c.args.id
