-- `script::decimals::amount` meets its contract: one digit more.
use mathlib.Core.Path.{◌≡◌, sym, ◌∙◌}
use Prim.Native.Nat.{◌-◌}
use native.Mathlib.Omega.{arith}
use lib.ListN.{get_or}
use Rattle.script.proofs.DecimalsAmounts.{amount_further}
use Rattle.script.proofs.decimals.amount.Goals as goal

pub loop-c-preserved : goal.loop-c-preserved
loop-c-preserved c =
    let s = c.args in
    let l = c.loop-c in
    let is : c.from-digit.result ≡ get_or s.word.now l.c-index 0 - 48 = c.from-digit.ensures in
    let digit = sym c.if-not-is_ascii_digit.ensures.value in
    (omega arith, rw is (sym (amount_further s.most s.word.now l.c-index l.value (omega arith) digit) ∙ l.invariant.1))
