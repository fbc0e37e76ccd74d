-- What the number of sectors says of an image's length.
use mathlib.Core.Path.{◌≡◌}
use mathlib.Core.Bool.{◌&&◌}
use Prim.Native.Nat.{ℕ, ◌*◌, ◌/◌, ◌%◌, ◌≤◌, ◌<◌}
use native.Mathlib.Omega.{arith}
use lib.Dec.{eqb, leb}
use borrow.Author.Tests.{eqb-true, leb-true, eq-eqb, le-leb}
use Rattle.basics.proofs.ChoiceLaws.{first, second, by_test}
use Rattle.flash.specs.Image.{sectors_in}

pub sectors-fit : (len : ℕ) → (sectors_in len ≤ 16) × (sectors_in len * 4096 ≤ len)
unfolding sectors_in
sectors-fit len =
    by_test (λ (n : ℕ). (n ≤ 16) × (n * 4096 ≤ len)) (eqb (len % 4096) 0 && leb len 65536) (len / 4096) 0
    (λ e. let most = leb-true len 65536 (second (eqb (len % 4096) 0) (leb len 65536) e) in (omega arith, omega arith))
    (λ e. (omega arith, omega arith))

-- an image of n sectors has their bytes and no more
pub sectors-whole : (len : ℕ) → 0 < sectors_in len → len ≡ sectors_in len * 4096
unfolding sectors_in
sectors-whole len =
    by_test (λ (n : ℕ). 0 < n → len ≡ n * 4096) (eqb (len % 4096) 0 && leb len 65536) (len / 4096) 0
    (λ e h. let even = eqb-true (len % 4096) 0 (first (eqb (len % 4096) 0) (leb len 65536) e) in omega arith)
    (λ e h. absurd (omega arith))

-- and n sectors from 1 to 16 make an image
pub sectors_of : (n : ℕ) → n ≤ 16 → sectors_in (n * 4096) ≡ n
unfolding sectors_in
sectors_of n h =
    let even : n * 4096 % 4096 ≡ 0 = omega arith in
    let back : n * 4096 / 4096 ≡ n = omega arith in
    rw (eq-eqb (n * 4096 % 4096) 0 even, le-leb (n * 4096) 65536 (omega arith)) back
