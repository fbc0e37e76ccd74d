-- `host::turns::attempt` meets its contract: it is the turn of its two requests.
use mathlib.Core.Path.{subst₂}
use Rattle.host.specs.declared.requests.Request.{Request}
use Rattle.host.specs.Turns.{InTurnOf}
use Rattle.host.proofs.turns.attempt.Goals as goal

pub returns : goal.returns
returns c =
    let a = c.args in
    subst₂ (λ (x y : Request). InTurnOf x y a.image.now a.log a.plan c.in_turn.result c.in_turn.new.image) c.of-number.ensures
    c.of-spend.ensures c.in_turn.ensures
