-- `codec::slots::bytes` meets its contract.
use mathlib.Core.Path.{ap}
use Rattle.basics.proofs.ListsLaws.{read_all}
use mathlib.Core.List.{List, ◌∷◌}
use Prim.Native.Nat.{ℕ}
use Rattle.codec.proofs.SlotsOwned.{ten}
use Rattle.codec.proofs.slots.bytes.Goals as goal

pub returns : goal.returns
returns c =
    let r = c.args.«record» in
    ap (λ (l : List ℕ). r.tag ∷ r.id ∷ l) (read_all 10 r.body (ten r c.well_formed.0))
