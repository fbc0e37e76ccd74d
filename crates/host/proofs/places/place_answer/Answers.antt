-- `host::places::place_answer` meets its contract: each return has its test of the definition.
use native.Mathlib.Omega.{arith}
use borrow.Author.Tests.{eq-eqb, ne_eqb, lt-ltb, le-ltb}
use Rattle.host.specs.Places.{place_answer}
use Rattle.host.proofs.places.place_answer.Goals as goal

pub returns-then-n-eq0 : goal.returns-then-n-eq0
unfolding place_answer
returns-then-n-eq0 c = let a = c.args in rw (eq-eqb a.n 0 (omega arith))

pub returns-then-n-sector : goal.returns-then-n-sector
unfolding place_answer
returns-then-n-sector c = let a = c.args in rw (ne_eqb a.n 0 (λ e. omega arith), le-ltb a.sector a.n (omega arith))

pub returns-then-slot-ge-SLOTS : goal.returns-then-slot-ge-SLOTS
unfolding place_answer
returns-then-slot-ge-SLOTS c =
    let a = c.args in
    rw (ne_eqb a.n 0 (λ e. omega arith), lt-ltb a.sector a.n (omega arith), le-ltb a.slot 256 (omega arith))

pub returns : goal.returns
unfolding place_answer
returns c =
    let a = c.args in
    rw (ne_eqb a.n 0 (λ e. omega arith), lt-ltb a.sector a.n (omega arith), lt-ltb a.slot 256 (omega arith))
