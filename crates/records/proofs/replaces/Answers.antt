-- `records::replaces` meets its contract.
use mathlib.Core.Path.{sym, ◌∙◌}
use Rattle.basics.proofs.ChoiceLaws.{not-ltb}
use Rattle.records.specs.Table.{falls}
use Rattle.records.proofs.replaces.Goals as goal

pub returns-then-is_monotonic : goal.returns-then-is_monotonic
unfolding falls
returns-then-is_monotonic c =
    let a = c.args in
    rw (
      sym c.is_monotonic.ensures ∙ c.if-is_monotonic.true,
      not-ltb,
      c.value_of.ensures,
      c.value_of-then-is_monotonic.ensures,
    )

pub returns-else-is_monotonic : goal.returns-else-is_monotonic
unfolding falls
returns-else-is_monotonic c = rw (sym c.is_monotonic.ensures ∙ c.if-is_monotonic.false)
