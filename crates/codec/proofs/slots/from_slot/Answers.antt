-- `codec::slots::from_slot` meets its contract.
use mathlib.Core.Path.{ap}
use Rattle.basics.proofs.ListsLaws.{read-part}
use native.Mathlib.Omega.{arith}
use mathlib.Core.List.{List}
use Prim.Native.Nat.{ℕ}
use lib.ListN.{get_or}
use Rattle.codec.proofs.slots.from_slot.Goals as goal

pub returns : goal.returns
returns c =
    let s = c.args.s.now in
    ap (λ (l : List ℕ). record { tag = get_or s 0 0; id = get_or s 1 0; body = l }) (read-part 10 2 s (omega (arith, c.requires)))
