-- `flash::power::after_erase` meets its contract.
use mathlib.Core.Path.{sym, ap, ◌∙◌}
use mathlib.Core.Bool.{Bool}
use Rattle.basics.specs.Choice.{pick}
use Rattle.flash.specs.Power.{powered, charged}
use Rattle.flash.proofs.power.after_erase.Goals as goal

pub returns-then-refused : goal.returns-then-refused
returns-then-refused c = let plan = c.args.plan in ap (λ (t : Bool). pick t plan (charged plan (powered plan 4096))) (sym c.if-refused.true)

pub returns : goal.returns
returns c =
    let plan = c.args.plan in
    c.charge.ensures ∙ ap (λ (t : Bool). pick t plan (charged plan (powered plan 4096))) (sym c.if-refused.false)
