-- `flash::erase::erase_sector` meets its contract: the lent sector comes back blanked, and is read again in its place.
use mathlib.Core.Path.{◌≡◌, ap, ◌∙◌}
use mathlib.Core.List.{List}
use Prim.Native.Nat.{ℕ, ◌+◌, ◌-◌, ◌*◌}
use native.Mathlib.Omega.{arith}
use lib.ListN.{length}
use borrow.Author.Tests.{lt-ltb, le-ltb}
use Rattle.basics.specs.Lists.{all_are, splice}
use Rattle.flash.specs.Image.{sector_at, with_sector}
use Rattle.flash.specs.Run.{blanked}
use Rattle.flash.proofs.RunLanding.{blanked-length}
use Rattle.flash.proofs.ImageLent.{lent-whole, lent_again}
use Rattle.flash.proofs.erase.erase_sector.Goals as goal

pub returns-then-n-lt-SECTOR : goal.returns-then-n-lt-SECTOR
unfolding sector_at with_sector
returns-then-n-lt-SECTOR c =
    let left : List ℕ = let args = c.args in blanked args.n (sector_at args.image.now args.sector) in
    let whole : let args =
    c.args in let a = args.sector * 4096 in splice a (a + 4096 - a) c.blank.new.part args.image.now
    ≡ with_sector args.sector left args.image.now = let args = c.args in
    lent-whole (args.sector * 4096) 4096 (blanked args.n) args.image.now c.blank.new.part c.blank.ensures in
    (rw (lt-ltb c.args.n 4096 (omega arith)), whole)

pub returns-then-is_erased : goal.returns-then-is_erased
unfolding sector_at with_sector
returns-then-is_erased c =
    let left : List ℕ = let args = c.args in blanked args.n (sector_at args.image.now args.sector) in
    let whole : let args =
    c.args in let a = args.sector * 4096 in splice a (a + 4096 - a) c.blank.new.part args.image.now
    ≡ with_sector args.sector left args.image.now = let args = c.args in
    lent-whole (args.sector * 4096) 4096 (blanked args.n) args.image.now c.blank.new.part c.blank.ensures in
    let found : c.is_erased.result ≡ all_are 0xFF left = let args = c.args in
    let blanks = blanked args.n in
    let keeps : (l : List ℕ) → length l ≡ 4096 → length (blanks l) ≡ 4096 =
    λ l e. blanked-length args.n l (omega (arith, c.requires)) ∙ e in
    c.is_erased.ensures
    ∙ ap (all_are 0xFF)
    (lent_again (args.sector * 4096) 4096 blanks args.image.now c.blank.new.part c.blank.ensures c.requires.1 keeps) in
    (rw (le-ltb c.args.n 4096 (omega arith), ← found, c.if-is_erased.true), whole)

pub returns-else-is_erased : goal.returns-else-is_erased
unfolding sector_at with_sector
returns-else-is_erased c =
    let left : List ℕ = let args = c.args in blanked args.n (sector_at args.image.now args.sector) in
    let whole : let args =
    c.args in let a = args.sector * 4096 in splice a (a + 4096 - a) c.blank.new.part args.image.now
    ≡ with_sector args.sector left args.image.now = let args = c.args in
    lent-whole (args.sector * 4096) 4096 (blanked args.n) args.image.now c.blank.new.part c.blank.ensures in
    let found : c.is_erased.result ≡ all_are 0xFF left = let args = c.args in
    let blanks = blanked args.n in
    let keeps : (l : List ℕ) → length l ≡ 4096 → length (blanks l) ≡ 4096 =
    λ l e. blanked-length args.n l (omega (arith, c.requires)) ∙ e in
    c.is_erased.ensures
    ∙ ap (all_are 0xFF)
    (lent_again (args.sector * 4096) 4096 blanks args.image.now c.blank.new.part c.blank.ensures c.requires.1 keeps) in
    (rw (le-ltb c.args.n 4096 (omega arith), ← found, c.if-is_erased.false), whole)
