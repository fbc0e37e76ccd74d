-- `codec::slots::decode_from` meets its contract.
use mathlib.Core.Path.{sym, ◌∙◌}
use Rattle.codec.specs.Slots.{decoded_with}
use borrow.Author.Tests.{eq-eqb, ne_eqb}
use Rattle.codec.proofs.slots.decode_from.Goals as goal

pub returns-then-slot-ne-SLOT : goal.returns-then-slot-ne-SLOT
unfolding decoded_with
returns-then-slot-ne-SLOT c = rw (ne_eqb _ _ c.if-slot-ne-SLOT.true)

pub returns-then-is_free : goal.returns-then-is_free
unfolding decoded_with
returns-then-is_free c = rw (eq-eqb _ _ c.if-slot-ne-SLOT.false, eq-eqb _ _ c.if-is_free.true)

pub returns-then-check12-carried : goal.returns-then-check12-carried
unfolding decoded_with
returns-then-check12-carried c =
    rw (
      eq-eqb _ _ c.if-slot-ne-SLOT.false,
      ne_eqb _ _ c.if-is_free.false,
      ne_eqb _ _ (λ e. c.if-check12-carried.true (c.check12.ensures ∙ e ∙ sym c.carried.ensures)),
    )

pub returns : goal.returns
unfolding decoded_with
returns c =
    rw (
      c.from_slot.ensures,
      eq-eqb _ _ c.if-slot-ne-SLOT.false,
      ne_eqb _ _ c.if-is_free.false,
      eq-eqb _ _ (sym c.check12.ensures ∙ c.if-check12-carried.false ∙ c.carried.ensures),
    )
