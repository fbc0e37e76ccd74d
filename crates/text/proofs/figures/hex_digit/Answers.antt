-- `text::figures::hex_digit` meets its contract.
use mathlib.Core.Path.{sym}
use native.Mathlib.Omega.{arith}
use Rattle.text.proofs.TextHex.{digit_low, digit-high}
use Rattle.text.proofs.figures.hex_digit.Goals as goal

pub returns-then-x-lt10 : goal.returns-then-x-lt10
returns-then-x-lt10 c = sym (digit_low c.args.x (omega arith))

pub returns-else-x-lt10 : goal.returns-else-x-lt10
returns-else-x-lt10 c = omega (arith, digit-high c.args.x (omega arith))
