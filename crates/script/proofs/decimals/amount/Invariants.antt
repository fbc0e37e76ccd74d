-- `script::decimals::amount` meets its contract. The loop's invariant: what is left, behind the value so far, gives what the whole word gives.
use mathlib.Core.Path.{◌≡◌}
use Prim.Native.Nat.{◌≤◌}
use lib.ListN.{drop}
use Rattle.script.specs.Decimals.{amount_from, amount_of}
use Rattle.script.proofs.decimals.amount.Given as goal

abbrev pub invariant-loop-c : goal.invariant-loop-c
invariant-loop-c l = (l.value ≤ l.most) × (amount_from l.most l.value (drop l.c-index l.word) ≡ amount_of l.most l.word)
