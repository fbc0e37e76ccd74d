-- `codec::headers::decode_header` meets its contract: each return has its test of the definition.
use mathlib.Core.Path.{◌≡◌, sym, ap, ◌∙◌}
use mathlib.Core.Bool.{true, false}
use mathlib.Core.List.{List}
use Prim.Native.Nat.{ℕ}
use native.Mathlib.Omega.{arith}
use lib.ListN.{take}
use borrow.Author.Tests.{eq-eqb, ne_eqb, not-true, not-false}
use Rattle.basics.specs.Little.{le_number}
use Rattle.basics.proofs.ListsLaws.{read-part}
use Rattle.crc.specs.Register.{crc32_of}
use Rattle.std.specs.Prelude.{Some}
use Rattle.codec.specs.Slots.{crc_from, header_of, magic_at}
use Rattle.codec.proofs.SlotsLaws.{from_start}
use Rattle.codec.proofs.headers.decode_header.Goals as goal

pub returns-then-slot-ne-SLOT : goal.returns-then-slot-ne-SLOT
unfolding header_of
returns-then-slot-ne-SLOT c = rw (ne_eqb _ _ c.if-slot-ne-SLOT.true)

pub returns-then-not-has_magic : goal.returns-then-not-has_magic
unfolding header_of
returns-then-not-has_magic c =
    let slot : List ℕ = c.args.slot.now in
    let none : magic_at slot ≡ false =
    sym c.has_magic.ensures ∙ not-true c.has_magic.result c.if-not-has_magic.true-raw in
    rw (eq-eqb _ _ c.if-slot-ne-SLOT.false, none)

pub returns-then-is_other : goal.returns-then-is_other
unfolding header_of
returns-then-is_other c =
    let slot : List ℕ = c.args.slot.now in
    let magic : magic_at slot ≡ true = sym c.has_magic.ensures ∙ not-false c.has_magic.result c.if-not-has_magic.false-raw in
    rw (eq-eqb _ _ c.if-slot-ne-SLOT.false, magic, ne_eqb _ _ c.if-is_other.true)

pub returns-then-check12-carried : goal.returns-then-check12-carried
unfolding header_of
returns-then-check12-carried c =
    let slot : List ℕ = c.args.slot.now in
    let magic : magic_at slot ≡ true = sym c.has_magic.ensures ∙ not-false c.has_magic.result c.if-not-has_magic.false-raw in
    let covered : List ℕ = take 12 slot in
    let checked : c.check12.result ≡ crc32_of covered = let bytes = covered in
    c.check12.ensures ∙ ap (λ (s : ℕ). crc_from s bytes) c.start.ensures ∙ from_start bytes in
    rw (
      eq-eqb _ _ c.if-slot-ne-SLOT.false,
      magic,
      eq-eqb _ _ c.if-is_other.false,
      ne_eqb _ _ (λ e. c.if-check12-carried.true (checked ∙ e ∙ sym c.carried.ensures)),
    )

pub returns : goal.returns
unfolding header_of
returns c =
    let slot : List ℕ = c.args.slot.now in
    let magic : magic_at slot ≡ true = sym c.has_magic.ensures ∙ not-false c.has_magic.result c.if-not-has_magic.false-raw in
    let covered : List ℕ = take 12 slot in
    let checked : c.check12.result ≡ crc32_of covered = let bytes = covered in
    c.check12.ensures ∙ ap (λ (s : ℕ). crc_from s bytes) c.start.ensures ∙ from_start bytes in
    rw (
      eq-eqb _ _ c.if-slot-ne-SLOT.false,
      magic,
      eq-eqb _ _ c.if-is_other.false,
      eq-eqb _ _ (sym checked ∙ c.if-check12-carried.false ∙ c.carried.ensures),
    )
    (ap Some (c.number4.ensures ∙ ap le_number (read-part 4 4 slot (omega (arith, c.if-slot-ne-SLOT.false)))))
