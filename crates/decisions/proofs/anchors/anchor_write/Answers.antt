-- `decisions::anchors::anchor_write` meets its contract.
use mathlib.Core.Path.{◌≡◌, sym, ap, ◌∙◌}
use Rattle.std.specs.Prelude.{Result}
use Rattle.basics.specs.declared.Refusal.{Refusal}
use Rattle.codec.specs.declared.Raw.{Raw}
use Rattle.decisions.specs.Decisions.{write_made, anchor_write}
use Rattle.decisions.proofs.anchors.anchor_write.Goals as goal
use Rattle.decisions.proofs.anchors.anchor_write.Goals.{After-anchor_record}

made_is : (c : After-anchor_record) (m : Result Raw Refusal) → c.anchor_record.result ≡ m → write_made c.args.room m ≡ anchor_write c.args.room c.args.new
unfolding anchor_write
made_is c m e = ap (write_made c.args.room) (sym e ∙ c.anchor_record.ensures)

pub returns-in-Ok : goal.returns-in-Ok
returns-in-Ok c = c.writes.ensures ∙ made_is (goal.at.returns-in-Ok c).After-anchor_record _ c.in-Ok.is

pub returns-in-Err : goal.returns-in-Err
returns-in-Err c = made_is (goal.at.returns-in-Err c).After-anchor_record _ c.in-Err.is
