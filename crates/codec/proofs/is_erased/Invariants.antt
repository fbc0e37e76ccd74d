-- `codec::is_erased` meets its contract. The loop's invariant: what was seen is FF, and what is left is, just where the whole is.
use Rattle.std.proofs.Common.{◌≡◌, ◌<◌, ◌&&◌, drop}
use lib.Dec.{eqb}
use Rattle.basics.specs.Lists.{all_are}
use Rattle.codec.proofs.is_erased.Given as goal

abbrev pub invariant-loop-b : goal.invariant-loop-b
invariant-loop-b l =
    (l.all < 256) × (eqb l.all 0xFF && all_are 0xFF (drop l.b-index l.bytes) ≡ all_are 0xFF l.bytes)
