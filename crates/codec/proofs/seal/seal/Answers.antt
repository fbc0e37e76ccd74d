-- `codec::seal::seal` meets its contract.
use mathlib.Core.Path.{ap₂}
use Rattle.basics.proofs.ListsLaws.{read_all}
use mathlib.Core.List.{List, ◌++◌}
use Prim.Native.Nat.{ℕ}
use Rattle.basics.specs.Little.{le_bytes}
use Rattle.codec.proofs.seal.seal.Goals as goal

pub returns : goal.returns
unfolding le_bytes
returns c =
    ap₂ (λ (x y : List ℕ). x ++ y) (read_all 12 c.args.b c.well_formed.0.1.0.1) (rw c.bytes4-c.ensures)
