-- `text::figures::put_decimal` meets its contract.
use Rattle.std.proofs.Common.{◌≡◌, ◌+◌, ◌/◌, ap, arith, length, length-append, ◌∙◌}
use Rattle.text.specs.Text.{decimal}
use Rattle.text.proofs.TextPutting.{room-left, last}
use Rattle.text.proofs.TextDecimal.{decimal-more, begun_short, begun_long}
use Rattle.text.proofs.figures.+put_decimal.Goals as goal
use Rattle.text.proofs.figures.+put_decimal.Goals.{then-x-lt10, else-x-lt10}

pub put_decimal-next-requires : goal.put_decimal-next-requires
put_decimal-next-requires t c =
    let x = c.args.x in
    let longer : length (decimal x) ≡ length (decimal (x / 10)) + 1 =
    ap length (decimal-more x (omega arith) (omega arith)) ∙ length-append _ _ in
    (omega arith, omega (arith, longer))

pub put_byte-requires : goal.put_byte-requires
put_byte-requires t c =
    let a = c.args in
    elim c.if-x-lt10.branch [
      | then-x-lt10 w ↦ rw (w.next-is, w.out-is) (omega (arith, room-left c.requires (begun_short a.out.now a.at a.x (omega arith))))
      | else-x-lt10 w ↦
          let begun = begun_long a.out.now a.at a.x (omega arith) (omega arith) w.put_decimal-next.ensures in
          rw (w.next-is, w.out-is) (omega (arith, room-left c.requires begun))
    ]

pub returns : goal.returns
returns t c =
    let a = c.args in
    elim c.if-x-lt10.branch [
      | then-x-lt10 w ↦ last c.requires (begun_short a.out.now a.at a.x (omega arith)) (rw (w.next-is, w.out-is) at c.put_byte.ensures)
      | else-x-lt10 w ↦
          let begun = begun_long a.out.now a.at a.x (omega arith) (omega arith) w.put_decimal-next.ensures in
          last c.requires begun (rw (w.next-is, w.out-is) at c.put_byte.ensures)
    ]
