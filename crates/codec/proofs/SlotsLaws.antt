-- What the proofs of the functions cite: the checksum run on from the seq, and the test for erased bytes without a branch.
use mathlib.Core.Path.{◌≡◌, refl, sym, ap, ◌∙◌}
use mathlib.Core.Bool.{Bool, true, ◌&&◌, and-true, and-false}
use mathlib.Core.List.{List, [], ◌∷◌}
use Prim.Native.Nat.{ℕ, ◌<◌}
use native.Mathlib.Omega.{arith}
use lib.Bits.{bit_and, and_le_l, and_le_r}
use lib.Dec.{eqb}
use lib.ListN.{length, get_or, take}
use borrow.Author.Tests.{eq-eqb, eqb-true}
use Rattle.basics.specs.Lists.{same, all_are}
use Rattle.basics.specs.Little.{le_bytes}
use Rattle.basics.proofs.ListsLaws.{read-part}
use Rattle.basics.proofs.ChoiceLaws.{alike, both, first, second}
use Rattle.crc.specs.Register.{initial, crc32_of}
use Rattle.crc.proofs.RegisterRunning.{crc_parts}
use Rattle.codec.specs.declared.Raw.{Raw}
use Rattle.codec.specs.Slots.{crc_under, crc_from, seq_fed, magic, magic_at, sealed, bytes_of, slot_of, decoded_with, decoded}
use Rattle.std.specs.Prelude.{None}

-- the checksum from the register that the seq left is the checksum under the seq
pub from_under : (seq : ℕ) (bytes : List ℕ) → crc_from (seq_fed seq) bytes ≡ crc_under seq bytes
unfolding crc_under crc_from seq_fed
from_under seq bytes = sym (crc_parts (le_bytes 4 seq) bytes)

-- two bytes leave FF between them where each is FF
pub and-full : (x y : ℕ) → x < 256 → y < 256 → eqb (bit_and x y) 0xFF ≡ (eqb x 0xFF && eqb y 0xFF)
and-full x y hx hy = alike (eqb (bit_and x y) 0xFF) (eqb x 0xFF && eqb y 0xFF) apart together
  where
    apart : eqb (bit_and x y) 0xFF ≡ true → eqb x 0xFF && eqb y 0xFF ≡ true
    apart e =
        let full = eqb-true (bit_and x y) 0xFF e in
        both (eq-eqb x 0xFF (omega (arith, and_le_l x y))) (eq-eqb y 0xFF (omega (arith, and_le_r x y)))

    together : eqb x 0xFF && eqb y 0xFF ≡ true → eqb (bit_and x y) 0xFF ≡ true
    together e =
        rw (eqb-true x 0xFF (first (eqb x 0xFF) (eqb y 0xFF) e), eqb-true y 0xFF (second (eqb x 0xFF) (eqb y 0xFF) e))

-- the four bytes of the magic, one by one
pub magic-read : (slot : List ℕ) → length slot ≡ 16
    → magic_at slot ≡ (eqb (get_or slot 0 0) 0x50 && (eqb (get_or slot 1 0) 0x32 && (eqb (get_or slot 2 0) 0x52 && eqb (get_or slot 3 0) 0x43)))
unfolding same
magic-read slot h =
    ap (λ (l : List ℕ). same l magic) (sym (read-part 4 0 slot (omega arith)))
    ∙ ap (λ (t : Bool). eqb (get_or slot 0 0) 0x50 && (eqb (get_or slot 1 0) 0x32 && (eqb (get_or slot 2 0) 0x52 && t)))
    (and-true (eqb (get_or slot 3 0) 0x43))

-- the checksum from the start is the whole checksum
pub from_start : (bytes : List ℕ) → crc_from initial bytes ≡ crc32_of bytes
unfolding crc_from crc32_of
from_start bytes = refl

-- a record read from the register that the seq left is the record under the seq
pub decoded_from : (seq : ℕ) (slot : List ℕ) → decoded_with (crc_from (seq_fed seq) (take 12 slot)) slot ≡ decoded seq slot
unfolding decoded
decoded_from seq slot = ap (λ (check : ℕ). decoded_with check slot) (from_under seq (take 12 slot))

-- an erased slot is no record
pub erased-none : (seq : ℕ) (slot : List ℕ) → all_are 0xFF slot ≡ true → decoded seq slot ≡ None
unfolding decoded decoded_with all_are
erased-none seq [] e = refl
erased-none seq (b ∷ bs) e = rw (first (eqb b 0xFF) (all_are 0xFF bs) e, and-false)

-- and a record written from it is the slot under the seq
pub sealed_from : (seq : ℕ) (r : Raw) → sealed (crc_from (seq_fed seq) (bytes_of r)) (bytes_of r) ≡ slot_of seq r
unfolding slot_of
sealed_from seq r = ap (λ (check : ℕ). sealed check (bytes_of r)) (from_under seq (bytes_of r))
