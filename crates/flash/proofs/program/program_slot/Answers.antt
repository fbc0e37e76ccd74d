-- `flash::program::program_slot` meets its contract: the lent slot comes back with n bytes landed, and is read again in its place.
use mathlib.Core.Path.{◌≡◌, ap, ◌∙◌}
use mathlib.Core.List.{List}
use Prim.Native.Nat.{ℕ, ◌+◌, ◌-◌, ◌≤◌}
use native.Mathlib.Omega.{arith}
use lib.ListN.{length}
use borrow.Author.Tests.{lt-ltb, le-ltb}
use Rattle.basics.specs.Lists.{same, splice}
use Rattle.flash.specs.Image.{addr, slot_at, with_slot}
use Rattle.flash.specs.Run.{landed}
use Rattle.flash.proofs.RunLanding.{landed-length}
use Rattle.flash.proofs.ImageLent.{lent-whole, lent_again}
use Rattle.flash.proofs.program.program_slot.Goals as goal

pub returns-then-n-lt-SLOT : goal.returns-then-n-lt-SLOT
unfolding slot_at with_slot
returns-then-n-lt-SLOT c =
    let left : List ℕ = let args = c.args in landed args.n args.bytes (slot_at args.image.now args.sector args.slot) in
    let whole : let args =
    c.args in let a = addr args.sector args.slot in splice a (a + 16 - a) c.program.new.slot args.image.now
    ≡ with_slot args.sector args.slot left args.image.now = let args = c.args in
    lent-whole (addr args.sector args.slot) 16 (landed args.n args.bytes) args.image.now c.program.new.slot c.program.ensures in
    (rw (lt-ltb c.args.n 16 (omega arith)), whole)

pub returns-then-reads_back : goal.returns-then-reads_back
unfolding slot_at with_slot
returns-then-reads_back c =
    let left : List ℕ = let args = c.args in landed args.n args.bytes (slot_at args.image.now args.sector args.slot) in
    let whole : let args =
    c.args in let a = addr args.sector args.slot in splice a (a + 16 - a) c.program.new.slot args.image.now
    ≡ with_slot args.sector args.slot left args.image.now = let args = c.args in
    lent-whole (addr args.sector args.slot) 16 (landed args.n args.bytes) args.image.now c.program.new.slot c.program.ensures in
    let found : c.reads_back.result ≡ same left c.args.bytes = let args = c.args in
    let lands = landed args.n args.bytes in
    let keeps : (l : List ℕ) → length l ≡ 16 → length (lands l) ≡ 16 = λ l e. landed-length args.n args.bytes l ∙ e in
    let fits : addr args.sector args.slot + 16 ≤ length args.image.now = omega (arith, c.requires) in
    c.reads_back.ensures
    ∙ ap (λ (l : List ℕ). same l args.bytes)
    (lent_again (addr args.sector args.slot) 16 lands args.image.now c.program.new.slot c.program.ensures fits keeps) in
    (rw (le-ltb c.args.n 16 (omega arith), ← found, c.if-reads_back.true), whole)

pub returns-else-reads_back : goal.returns-else-reads_back
unfolding slot_at with_slot
returns-else-reads_back c =
    let left : List ℕ = let args = c.args in landed args.n args.bytes (slot_at args.image.now args.sector args.slot) in
    let whole : let args =
    c.args in let a = addr args.sector args.slot in splice a (a + 16 - a) c.program.new.slot args.image.now
    ≡ with_slot args.sector args.slot left args.image.now = let args = c.args in
    lent-whole (addr args.sector args.slot) 16 (landed args.n args.bytes) args.image.now c.program.new.slot c.program.ensures in
    let found : c.reads_back.result ≡ same left c.args.bytes = let args = c.args in
    let lands = landed args.n args.bytes in
    let keeps : (l : List ℕ) → length l ≡ 16 → length (lands l) ≡ 16 = λ l e. landed-length args.n args.bytes l ∙ e in
    let fits : addr args.sector args.slot + 16 ≤ length args.image.now = omega (arith, c.requires) in
    c.reads_back.ensures
    ∙ ap (λ (l : List ℕ). same l args.bytes)
    (lent_again (addr args.sector args.slot) 16 lands args.image.now c.program.new.slot c.program.ensures fits keeps) in
    (rw (le-ltb c.args.n 16 (omega arith), ← found, c.if-reads_back.false), whole)
