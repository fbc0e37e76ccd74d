-- The round trips of slots: what is written under a seq is read under it, what is read was sealed under it,
-- and a record that was read is written as the sixteen bytes that it was read from.
use mathlib.Core.Path.{◌≡◌, refl, sym, ap, ap₂, ◌∙◌}
use mathlib.Core.Bool.{Bool, true, false, not, ◌&&◌, false≢true}
use mathlib.Core.List.{List, ◌∷◌, ◌++◌}
use Prim.Native.Nat.{ℕ}
use native.Mathlib.Omega.{arith}
use lib.Dec.{T, eqb}
use lib.ListN.{length, get_or, take, drop, length-append, length-drop, take-append-drop}
use lib.Pow.{are_bytes}
use lib.Seq.{take_at, drop_at, take_all}
use borrow.Author.Tests.{eq-eqb, ne_eqb, eqb-true, eqb-false, not-true}
use Rattle.basics.specs.Choice.{pick}
use Rattle.basics.specs.Lists.{part, same}
use Rattle.basics.specs.Little.{le_bytes, le_number}
use Rattle.basics.proofs.ChoiceLaws.{both, first, second}
use Rattle.basics.proofs.ListsLaws.{read-part, same_eq, bytes_take, bytes_drop}
use Rattle.basics.proofs.LittleLaws.{le_length, le_read, le_write}
use Rattle.crc.specs.Register.{crc32_of}
use Rattle.codec.specs.declared.Raw.{Raw}
use Rattle.std.specs.Prelude.{Option, Some, None, is_some, unwrap_or}
use Rattle.codec.specs.Slots.{sealed, crc_in, magic, magic_at, header_bytes, header_slot, is_header, header_of, crc_under, bytes_of, raw_of}
use Rattle.codec.specs.Slots.{slot_of, is_record_with, no_raw, decoded_with, decoded}

-- ---- twelve bytes and a checksum
module _ (check : ℕ) (bytes : List ℕ) (size : length bytes ≡ 12) where
  pub sealed-length : length (sealed check bytes) ≡ 16
  sealed-length = length-append bytes (le_bytes 4 check) ∙ omega (arith, le_length 4 check)

  pub sealed-bytes : take 12 (sealed check bytes) ≡ bytes
  sealed-bytes = take_at bytes (le_bytes 4 check) 12 size

  pub sealed_crc : crc_in (sealed check bytes) ≡ check
  sealed_crc =
      ap le_number (ap (take 4) (drop_at bytes (le_bytes 4 check) 12 size) ∙ take_all 4 (le_bytes 4 check) (omega (arith, le_length 4 check)))
      ∙ le_read 3 check

-- a slot of bytes is its first twelve, and the four of its checksum
pub slot-parts : (slot : List ℕ) → length slot ≡ 16 → T (are_bytes slot) → sealed (crc_in slot) (take 12 slot) ≡ slot
slot-parts slot size t =
    let last = part 12 4 slot in
    let whole : part 12 4 slot ≡ drop 12 slot = take_all 4 (drop 12 slot) (simp length-drop (omega arith)) in
    let four : length last ≡ 4 = ap length whole ∙ simp length-drop (omega arith) in
    ap (λ (l : List ℕ). take 12 slot ++ l)
    (ap (λ (n : ℕ). le_bytes n (le_number last)) (sym four) ∙ le_write last (bytes_take 4 (drop 12 slot) (bytes_drop 12 slot t)) ∙ whole)
    ∙ take-append-drop 12 slot

-- ---- records
-- what is encoded under a seq decodes under it to the same
pub decode_encode : (seq : ℕ) (r : Raw) → length r.body ≡ 10 → (r.tag ≡ 0xFF → ⊥) → decoded seq (slot_of seq r) ≡ Some r
unfolding slot_of decoded decoded_with
decode_encode seq r size tag =
    let check = crc_under seq (bytes_of r) in
    let slot = sealed check (bytes_of r) in
    let twelve : length (bytes_of r) ≡ 12 = omega arith in
    let body : part 2 10 slot ≡ r.body = take_at r.body (le_bytes 4 check) 10 size in
    ap (λ (c : ℕ). decoded_with c slot) (ap (crc_under seq) (sealed-bytes check (bytes_of r) twelve))
    ∙ ap (λ (t : Bool). pick t (Some (raw_of slot)) None)
    (both (eq-eqb _ _ (sealed-length check (bytes_of r) twelve))
    (both (ap not (ne_eqb r.tag 0xFF tag)) (eq-eqb _ _ (sym (sealed_crc check (bytes_of r) twelve)))))
    ∙ ap (λ (l : List ℕ). Some (record { tag = r.tag; id = r.id; body = l })) body

-- what decodes was sealed: sixteen bytes, a tag, the record in bytes 0..11, and its checksum under the seq behind it
pub record Sealed (seq : ℕ) (slot : List ℕ) (r : Raw) : Type 0 where
  pub size : length slot ≡ 16
  pub tag : r.tag ≡ 0xFF → ⊥
  pub bytes : take 12 slot ≡ bytes_of r
  pub check : crc_in slot ≡ crc_under seq (bytes_of r)

twelve-read : (slot : List ℕ) → length slot ≡ 16 → take 12 slot ≡ bytes_of (raw_of slot)
twelve-read slot size =
    sym (read-part 12 0 slot (omega arith)) ∙ ap (λ (l : List ℕ). get_or slot 0 0 ∷ get_or slot 1 0 ∷ l) (read-part 10 2 slot (omega arith))

sealed-by : (seq : ℕ) (slot : List ℕ) → is_record_with (crc_under seq (take 12 slot)) slot ≡ true → Sealed seq slot (raw_of slot)
sealed-by seq slot e =
    let check = crc_under seq (take 12 slot) in
    let sized = eqb (length slot) 16 in
    let tagged = not (eqb (get_or slot 0 0) 0xFF) in
    let matched = eqb check (crc_in slot) in
    let rest = second sized (tagged && matched) e in
    let long = eqb-true (length slot) 16 (first sized (tagged && matched) e) in
    let twelve = twelve-read slot long in
    record {
      size = long;
      tag = eqb-false (get_or slot 0 0) 0xFF (not-true (eqb (get_or slot 0 0) 0xFF) (first tagged matched rest));
      bytes = twelve;
      check = sym (eqb-true check (crc_in slot) (second tagged matched rest)) ∙ ap (crc_under seq) twelve;
    }

pub decode_sealed : (seq : ℕ) (slot : List ℕ) (r : Raw) → decoded seq slot ≡ Some r → Sealed seq slot r
unfolding decoded decoded_with
decode_sealed seq slot r e = go (is_record_with (crc_under seq (take 12 slot)) slot) refl e
  where
    go : (t : Bool) → is_record_with (crc_under seq (take 12 slot)) slot ≡ t → pick t (Some (raw_of slot)) None ≡ Some r → Sealed seq slot r
    go true h e = rw (ap (λ (o : Option Raw). unwrap_or o no_raw) e) at (sealed-by seq slot h)
    go false h e = absurd (false≢true (ap (λ (o : Option Raw). is_some o) e))

-- a decoded record encodes to the same sixteen bytes
pub encode_decode : (seq : ℕ) (slot : List ℕ) (r : Raw) → T (are_bytes slot) → decoded seq slot ≡ Some r → slot_of seq r ≡ slot
unfolding slot_of
encode_decode seq slot r t e =
    let s = decode_sealed seq slot r e in
    ap₂ sealed (sym s.check) (sym s.bytes) ∙ slot-parts slot s.size t

-- ---- headers
header_twelve : (seq : ℕ) → length (header_bytes seq) ≡ 12
unfolding le_bytes
header_twelve seq = refl

-- a header reads as it was written, under its version and no other
module _ (seq : ℕ) where
  version_at : get_or (header_slot seq) 8 0 ≡ 2
  unfolding header_slot le_bytes
  version_at = refl

  magic-at : magic_at (header_slot seq) ≡ true
  unfolding header_slot same
  magic-at = refl

  seq-at : le_number (part 4 4 (header_slot seq)) ≡ seq
  unfolding header_slot le_bytes
  seq-at = le_read 3 seq

  sixteen : length (header_slot seq) ≡ 16
  unfolding header_slot
  sixteen = sealed-length (crc32_of (header_bytes seq)) (header_bytes seq) (header_twelve seq)

  matched : crc32_of (take 12 (header_slot seq)) ≡ crc_in (header_slot seq)
  unfolding header_slot
  matched =
      ap crc32_of (sealed-bytes (crc32_of (header_bytes seq)) (header_bytes seq) (header_twelve seq))
      ∙ sym (sealed_crc (crc32_of (header_bytes seq)) (header_bytes seq) (header_twelve seq))

  pub header_read : header_of 2 (header_slot seq) ≡ Some seq
  unfolding header_of
  header_read =
      ap (λ (t : Bool). pick t (Some (le_number (part 4 4 (header_slot seq)))) None)
      (both (eq-eqb _ _ sixteen) (both magic-at (both (eq-eqb _ _ version_at) (eq-eqb _ _ matched))))
      ∙ ap Some seq-at

  pub header_other : (version : ℕ) → (version ≡ 2 → ⊥) → header_of version (header_slot seq) ≡ None
  unfolding header_of
  header_other version h =
      rw (eq-eqb _ _ sixteen, magic-at, ne_eqb _ _ (λ e. h (sym e ∙ version_at)))

-- what reads as a header has the magic, the version, its checksum and the seq in their places
pub record Headed (version : ℕ) (slot : List ℕ) (seq : ℕ) : Type 0 where
  pub size : length slot ≡ 16
  pub begins : take 4 slot ≡ magic
  pub versioned : get_or slot 8 0 ≡ version
  pub check : crc32_of (take 12 slot) ≡ crc_in slot
  pub seq-there : le_number (part 4 4 slot) ≡ seq

headed-by : (version : ℕ) (slot : List ℕ) → is_header version slot ≡ true → Headed version slot (le_number (part 4 4 slot))
headed-by version slot e =
    let sized = eqb (length slot) 16 in
    let magical = magic_at slot in
    let of-version = eqb (get_or slot 8 0) version in
    let matching = eqb (crc32_of (take 12 slot)) (crc_in slot) in
    let after = second sized (magical && (of-version && matching)) e in
    let behind = second magical (of-version && matching) after in
    record {
      size = eqb-true (length slot) 16 (first sized (magical && (of-version && matching)) e);
      begins = same_eq (take 4 slot) magic (first magical (of-version && matching) after);
      versioned = eqb-true (get_or slot 8 0) version (first of-version matching behind);
      check = eqb-true (crc32_of (take 12 slot)) (crc_in slot) (second of-version matching behind);
      seq-there = refl;
    }

pub header_sealed : (version : ℕ) (slot : List ℕ) (seq : ℕ) → header_of version slot ≡ Some seq → Headed version slot seq
unfolding header_of
header_sealed version slot seq e = go (is_header version slot) refl e
  where
    go : (t : Bool) → is_header version slot ≡ t → pick t (Some (le_number (part 4 4 slot))) None ≡ Some seq → Headed version slot seq
    go true h e = let same-seq : le_number (part 4 4 slot) ≡ seq = cc in rw same-seq at (headed-by version slot h)
    go false h e = let z : ◌≡◌ {A = ℕ} 0 1 = cc in absurd (omega arith)
