-- `flash::slot` meets its contract.
use Prim.Native.Nat.{◌+◌, ◌*◌}
use native.Mathlib.Nat.{add-sub_cancel_left}
use Rattle.flash.specs.Image.{slot_at}
use Rattle.flash.proofs.slot.Goals as goal

pub returns : goal.returns
unfolding slot_at
returns c = rw (add-sub_cancel_left (c.args.sector * 4096 + c.args.k * 16) 16)
