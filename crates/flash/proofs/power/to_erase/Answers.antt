-- `flash::power::to_erase` meets its contract.
use mathlib.Core.Path.{sym, ap, ◌∙◌}
use mathlib.Core.Bool.{Bool}
use Rattle.basics.specs.Choice.{pick}
use Rattle.flash.specs.Power.{powered}
use Rattle.flash.proofs.power.to_erase.Goals as goal

pub returns-then-plan : goal.returns-then-plan
returns-then-plan c = ap (λ (t : Bool). pick t 0 (powered c.args.plan 4096)) (sym c.if-plan.true)

pub returns : goal.returns
returns c =
    let plan = c.args.plan in
    c.power_for.ensures ∙ ap (λ (t : Bool). pick t 0 (powered plan 4096)) (sym c.if-plan.false)
