-- `flash::sectors` meets its contract: each return has its test of the definition.
use Prim.Native.Nat.{◌%◌}
use native.Mathlib.Omega.{arith}
use borrow.Author.Tests.{eq-eqb, ne_eqb, le-leb, lt-leb}
use Rattle.flash.specs.Image.{sectors_in}
use Rattle.flash.proofs.sectors.Goals as goal

pub returns-then-len-ne0 : goal.returns-then-len-ne0
unfolding sectors_in
returns-then-len-ne0 c = rw (ne_eqb (c.args.len % 4096) 0 (λ e. omega arith))

pub returns-then-len-gt-LARGEST : goal.returns-then-len-gt-LARGEST
unfolding sectors_in
returns-then-len-gt-LARGEST c = let len = c.args.len in rw (eq-eqb (len % 4096) 0 (omega arith), lt-leb len 65536 (omega arith))

pub returns : goal.returns
unfolding sectors_in
returns c = let len = c.args.len in rw (eq-eqb (len % 4096) 0 (omega arith), le-leb len 65536 (omega arith))
