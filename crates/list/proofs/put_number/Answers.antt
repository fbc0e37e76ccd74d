-- `list::put_number` meets its contract.
use mathlib.Core.List.{[], ◌∷◌}
use native.Mathlib.Omega.{arith}
use lib.ListN.{length-append}
use Rattle.text.specs.Text.{decimal}
use Rattle.text.proofs.TextPutting.{Begun, begun, room-left, next, last}
use Rattle.list.specs.Listing.{number}
use Rattle.list.proofs.put_number.Goals as goal

pub put_decimal-end-requires : goal.put_decimal-end-requires
put_decimal-end-requires c =
    omega (arith, c.requires, length-append (decimal c.args.x) (c.args.behind ∷ []))

pub put_byte-requires : goal.put_byte-requires
put_byte-requires c =
    let digits-stand : let a =
    c.args in Begun a.out.now a.at (number a.x a.behind) (a.behind ∷ []) c.put_decimal-end.new.out c.put_decimal-end.result = next c.requires
    (begun c.requires) c.put_decimal-end.ensures in
    omega (arith, room-left c.requires digits-stand)

pub returns : goal.returns
returns c =
    let digits-stand : let a =
    c.args in Begun a.out.now a.at (number a.x a.behind) (a.behind ∷ []) c.put_decimal-end.new.out c.put_decimal-end.result = next c.requires
    (begun c.requires) c.put_decimal-end.ensures in
    last c.requires digits-stand c.put_byte.ensures
