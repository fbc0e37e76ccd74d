-- `tries::clock::larger` meets its contract.
use mathlib.Core.Path.{◌≡◌, ap, sym, ◌∙◌}
use Prim.Native.Nat.{ℕ, max}
use native.Mathlib.Omega.{arith}
use Rattle.std.specs.Prelude.{Option}
use Rattle.codec.specs.declared.Raw.{Raw}
use Rattle.tries.specs.Tries.{seen_of}
use Rattle.tries.proofs.clock.larger.Goals as goal
use Rattle.tries.proofs.clock.larger.Goals.{After-value_of-old}

pub returns-in_default : goal.returns-in_default
returns-in_default c = rw c.in_default.is

most : (c : After-value_of-old) → max c.value_of-old.result c.args.seen ≡ seen_of c.args.held c.args.seen
most c = ap (λ (x : ℕ). max x c.args.seen) c.value_of-old.ensures ∙ sym (ap (λ (o : Option Raw). seen_of o c.args.seen) c.in-Some.is)

pub returns-then-is_behind : goal.returns-then-is_behind
returns-then-is_behind c = omega (arith, most (goal.at.returns-then-is_behind c).After-value_of-old, c.if-is_behind.true)

pub returns-else-is_behind : goal.returns-else-is_behind
returns-else-is_behind c = omega (arith, most (goal.at.returns-else-is_behind c).After-value_of-old, c.if-is_behind.false)
