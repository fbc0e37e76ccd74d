-- "In the host build the fault plan is run down in place, call after call": a call is what it is by value, and what it leaves of the plan
-- lies where the plan was lent.
use Rattle.std.specs.Prelude.{◌≡◌, List, ℕ}
use Rattle.flash.specs.declared.Plan.{Plan}
use Rattle.decisions.specs.declared.outcomes.Done.{Done}
use Rattle.decisions.specs.Outcomes.{Outcome, ShowsDone}

-- an answer, an image and a plan in its place that show this outcome
pub record ShowsDoneLent (o : Outcome) (r : Done) (image : List ℕ) (plan : Plan) : Type 0 where
  pub met : ShowsDone o r image
  pub left : plan ≡ o.flash.plan
