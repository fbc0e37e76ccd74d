-- A slot that was cut while it was programmed: a record is none or whole but for the chance match, a header is none or has its seq.
use Rattle.std.specs.Prelude.{Some, None}
use mathlib.Core.Path.{◌≡◌, refl, sym, ap, ap₂, ◌∙◌}
use mathlib.Core.Bool.{Bool, true, false, and-false, false≢true}
use mathlib.Core.List.{List, [], ◌∷◌, ◌++◌, append-nil}
use mathlib.Core.Logic.{◌⊎◌, inl, inr}
use Prim.Native.Nat.{ℕ, zero, suc, ◌+◌, ◌-◌, ◌^◌, ◌≤◌, ◌<◌}
use native.Mathlib.Omega.{arith}
use lib.Dec.{T, leb}
use lib.ListN.{length, get_or, take, drop, replicate, length-replicate, get_or-replicate, drop_of_length-le}
use lib.Pow.{are_bytes}
use lib.Seq.{length-take-le, drop-drop, get_or-take, get_or-append-add}
use borrow.Author.Tests.{ne_eqb, leb-true, leb-false}
use Rattle.basics.specs.Choice.{pick}
use Rattle.basics.specs.Lists.{same, part, splice}
use Rattle.basics.specs.Little.{le_bytes, le_number}
use Rattle.basics.proofs.ListsLaws.{same_refl, same_eq, read-part, bytes_cons, bytes-append, bytes_take}
use Rattle.basics.proofs.ListsSplice.{splice-length, splice-before}
use Rattle.basics.proofs.LittleLaws.{le-bytes}
use Rattle.crc.specs.Register.{crc32_of}
use Rattle.crc.proofs.RegisterBounds.{crc_lt}
use Rattle.codec.specs.declared.Raw.{Raw}
use Rattle.codec.specs.Slots.{sealed, crc_in, header_bytes, header_slot, is_header, header_of, crc_under, bytes_of, raw_of, slot_of, is_record_with}
use Rattle.codec.specs.Slots.{decoded_with, decoded}
use Rattle.codec.proofs.SlotsRoundTrip.{sealed-length, sealed-bytes, slot-parts, Sealed, decode_sealed, header_read, header_sealed}
use Rattle.flash.specs.Run.{landed}
use Rattle.flash.proofs.RunLanding.{landed-blank}
use Rattle.records.proofs.LogsOwned.{Whole}
use Rattle.demands.specs.Chance.{cut_at, ChanceMatch}

-- ---- the bytes of slots
seq-bytes : (seq : ℕ) → seq < 2 ^ 32 → T (are_bytes (le_bytes 4 seq))
seq-bytes seq h = le-bytes 4 seq h

module _ (seq : ℕ) (fits : seq < 2 ^ 32) (r : Raw) (w : Whole r) where
  twelve : length (bytes_of r) ≡ 12
  twelve = omega (arith, w.ten)

  record_bytes : T (are_bytes (bytes_of r))
  record_bytes = bytes_cons r.tag (r.id ∷ r.body) w.tag_fits (bytes_cons r.id r.body w.id_fits w.bytes)

  pub slot-sixteen : length (slot_of seq r) ≡ 16
  unfolding slot_of
  slot-sixteen = sealed-length (crc_under seq (bytes_of r)) (bytes_of r) twelve

  check-fits : crc_under seq (bytes_of r) < 2 ^ 32
  unfolding crc_under
  check-fits = crc_lt (le_bytes 4 seq ++ bytes_of r) (bytes-append (le_bytes 4 seq) (bytes_of r) (seq-bytes seq fits) record_bytes)

  pub slot-bytes : T (are_bytes (slot_of seq r))
  unfolding slot_of
  slot-bytes = bytes-append (bytes_of r) (le_bytes 4 (crc_under seq (bytes_of r))) record_bytes (le-bytes 4 (crc_under seq (bytes_of r)) check-fits)

module _ (seq : ℕ) where
  header_twelve : length (header_bytes seq) ≡ 12
  unfolding le_bytes
  header_twelve = refl

  pub header_sixteen : length (header_slot seq) ≡ 16
  unfolding header_slot
  header_sixteen = sealed-length (crc32_of (header_bytes seq)) (header_bytes seq) header_twelve

  pub header-bytes : seq < 2 ^ 32 → T (are_bytes (header_slot seq))
  unfolding header_slot
  header-bytes fits =
      let front : T (are_bytes (header_bytes seq)) = bytes-append (le_bytes 4 seq) (2 ∷ 0 ∷ 0 ∷ 0 ∷ []) (seq-bytes seq fits) tt in
      bytes-append (header_bytes seq) (le_bytes 4 (crc32_of (header_bytes seq))) front
      (le-bytes 4 (crc32_of (header_bytes seq)) (crc_lt (header_bytes seq) front))

-- ---- a slot that was cut
-- what lands on a blank slot before the cut
pub landed-cut : (k : ℕ) (new old : List ℕ) → length new ≡ 16 → T (are_bytes new) → old ≡ replicate 16 0xFF → landed k new old ≡ cut_at k new
landed-cut k new old size t blank =
    ap (landed k new) (blank ∙ ap (λ (n : ℕ). replicate n 0xFF) (sym size))
    ∙ landed-blank k new t
    ∙ ap (λ (n : ℕ). take k new ++ replicate (n - k) 0xFF) size

module _ (slot : List ℕ) (size : length slot ≡ 16) (k : ℕ) (most : k ≤ 16) where
  abbrev blanks : List ℕ
  blanks = replicate (16 - k) 0xFF

  cut-is : cut_at k slot ≡ splice k (16 - k) blanks slot
  cut-is =
      let end : length slot ≤ k + (16 - k) = omega arith in
      let behind : drop (16 - k) (drop k slot) ≡ [] = drop-drop (16 - k) k slot ∙ drop_of_length-le slot end in
      ap (λ (l : List ℕ). take k slot ++ l) (sym (append-nil blanks) ∙ ap (λ (l : List ℕ). blanks ++ l) (sym behind))

  pub cut-length : length (cut_at k slot) ≡ 16
  cut-length = ap length cut-is ∙ splice-length k (16 - k) blanks slot (omega arith) (length-replicate (16 - k) 0xFF) ∙ size

  pub cut-bytes : T (are_bytes slot) → T (are_bytes (cut_at k slot))
  cut-bytes t = bytes-append (take k slot) blanks (bytes_take k slot t) (full (16 - k))
    where
      full : (n : ℕ) → T (are_bytes (replicate n 0xFF))
      full zero = tt
      full (suc n) = full n

  -- what lies before the cut is the slot's, what lies behind it is FF
  cut_low : (a n : ℕ) → a + n ≤ k → part a n (cut_at k slot) ≡ part a n slot
  cut_low a n h = ap (part a n) cut-is ∙ splice-before k (16 - k) blanks slot (omega arith) (length-replicate (16 - k) 0xFF) a n h

  cut_high : (i : ℕ) → k ≤ i → i < 16 → get_or (cut_at k slot) i 0 ≡ 0xFF
  cut_high i h l =
      let front = length-take-le k slot (omega arith) in
      let there : i ≡ length (take k slot) + (i - k) = omega arith in
      ap (λ (x : ℕ). get_or (cut_at k slot) x 0) there
      ∙ get_or-append-add (take k slot) blanks (i - k) 0
      ∙ get_or-replicate (16 - k) (i - k) 0xFF 0 (omega arith)

  -- a checksum that was not reached is FFFFFFFF
  cut-check : k ≤ 12 → crc_in (cut_at k slot) ≡ 0xFFFF_FFFF
  unfolding le_number
  cut-check h =
      ap le_number (sym (read-part 4 12 (cut_at k slot) (omega (arith, cut-length))))
      ∙ rw (
        cut_high 12 h (omega arith),
        cut_high 13 (omega arith) (omega arith),
        cut_high 14 (omega arith) (omega arith),
        cut_high 15 (omega arith) (omega arith),
      )

-- ---- records
-- a slot is no record, or the one in its bytes
pub decoded-or : (seq : ℕ) (slot : List ℕ) → (decoded seq slot ≡ None) ⊎ (decoded seq slot ≡ Some (raw_of slot))
unfolding decoded decoded_with
decoded-or seq slot = go (is_record_with (crc_under seq (take 12 slot)) slot)
  where
    go : (b : Bool) → (pick b (Some (raw_of slot)) None ≡ None) ⊎ (pick b (Some (raw_of slot)) None ≡ Some (raw_of slot))
    go true = inr refl
    go false = inl refl

module _ (seq : ℕ) (fits : seq < 2 ^ 32) (r : Raw) (w : Whole r) (k : ℕ) (most : k ≤ 16)
    (unlucky : (m : ChanceMatch seq (slot_of seq r)) → m.k ≡ k → ⊥) where
  abbrev slot : List ℕ
  slot = slot_of seq r

  size : length slot ≡ 16
  size = slot-sixteen seq fits r w

  -- the first byte was reached: FF is no tag
  reached : (read : Raw) → Sealed seq (cut_at k slot) read → 1 ≤ k
  reached read s = go k refl
    where
      go : (j : ℕ) → j ≡ k → 1 ≤ k
      go zero e =
          let first = ap (λ (l : List ℕ). get_or l 0 0) s.bytes in
          absurd (s.tag (sym first ∙ get_or-take 12 (cut_at k slot) 0 0 (omega arith) ∙ cut_high slot size k most 0 (omega arith) (omega arith)))
      go (suc j) e = omega arith

  early : k ≤ 11 → (read : Raw) → Sealed seq (cut_at k slot) read → cut_at k slot ≡ slot
  early h read s = go (same (cut_at k slot) slot) refl
    where
      match : crc_under seq (take 12 (cut_at k slot)) ≡ 0xFFFF_FFFF
      match = ap (crc_under seq) s.bytes ∙ sym s.check ∙ cut-check slot size k most (omega arith)

      go : (b : Bool) → same (cut_at k slot) slot ≡ b → cut_at k slot ≡ slot
      go true e = same_eq (cut_at k slot) slot e
      go false e = absurd (unlucky (record {
        k = k;
        low = reached read s;
        high = h;
        matches = match;
        differs = λ d. false≢true (sym e ∙ ap (λ (l : List ℕ). same l slot) d ∙ same_refl slot);
      }) refl)

  late : 12 ≤ k → (read : Raw) → Sealed seq (cut_at k slot) read → cut_at k slot ≡ slot
  unfolding slot_of
  late h read s =
      let twelve-same : take 12 (cut_at k slot) ≡ bytes_of r =
      cut_low slot size k most 0 12 h ∙ sealed-bytes (crc_under seq (bytes_of r)) (bytes_of r) (twelve seq fits r w) in
      let check-same : crc_in (cut_at k slot) ≡ crc_under seq (bytes_of r) = s.check ∙ ap (crc_under seq) (sym s.bytes ∙ twelve-same) in
      sym (slot-parts (cut_at k slot) (cut-length slot size k most) (cut-bytes slot size k most (slot-bytes seq fits r w)))
      ∙ ap₂ sealed check-same twelve-same

  whole : (read : Raw) → Sealed seq (cut_at k slot) read → cut_at k slot ≡ slot
  whole read s = go (leb 12 k) refl
    where
      go : (b : Bool) → leb 12 k ≡ b → cut_at k slot ≡ slot
      go true e = late (leb-true 12 k e) read s
      go false e = let h = leb-false 12 k e in early (omega arith) read s

  -- a record that was cut is none, or whole
  pub cut_record : (decoded seq (cut_at k slot) ≡ None) ⊎ (cut_at k slot ≡ slot)
  cut_record = go (decoded-or seq (cut_at k slot))
    where
      go : (decoded seq (cut_at k slot) ≡ None) ⊎ (decoded seq (cut_at k slot) ≡ Some (raw_of (cut_at k slot)))
          → (decoded seq (cut_at k slot) ≡ None) ⊎ (cut_at k slot ≡ slot)
      go (inl e) = inl e
      go (inr e) = inr (whole (raw_of (cut_at k slot)) (decode_sealed seq (cut_at k slot) (raw_of (cut_at k slot)) e))

-- ---- headers
-- FF in the place of the first byte or of the version is no header
pub header_none : (slot : List ℕ) → get_or slot 0 0 ≡ 0xFF → header_of 2 slot ≡ None
unfolding header_of same
header_none [] e = absurd (omega arith)
header_none (b ∷ slot) e = rw (ne_eqb b 0x50 (λ h. omega arith), and-false)

header_unversioned : (slot : List ℕ) → get_or slot 8 0 ≡ 0xFF → header_of 2 slot ≡ None
unfolding header_of
header_unversioned slot e = rw (ne_eqb (get_or slot 8 0) 2 (λ h. omega arith), and-false, and-false)

header_seq : (seq : ℕ) → le_number (part 4 4 (header_slot seq)) ≡ seq
header_seq seq = (header_sealed 2 (header_slot seq) seq (header_read seq)).seq-there

-- a header that was cut is none, or has its seq
pub cut_header : (seq k : ℕ) → k ≤ 16 → (header_of 2 (cut_at k (header_slot seq)) ≡ None) ⊎ (header_of 2 (cut_at k (header_slot seq)) ≡ Some seq)
unfolding header_of
cut_header seq k most = go (leb 9 k) refl
  where
    seq-there : 9 ≤ k → le_number (part 4 4 (cut_at k (header_slot seq))) ≡ seq
    seq-there h = ap le_number (cut_low (header_slot seq) (header_sixteen seq) k most 4 4 (omega arith)) ∙ header_seq seq

    valid : 9 ≤ k → (b : Bool)
        → (pick b (Some (le_number (part 4 4 (cut_at k (header_slot seq))))) None ≡ None)
        ⊎ (pick b (Some (le_number (part 4 4 (cut_at k (header_slot seq))))) None ≡ Some seq)
    valid h true = inr (ap Some (seq-there h))
    valid h false = inl refl

    go : (b : Bool) → leb 9 k ≡ b → (header_of 2 (cut_at k (header_slot seq)) ≡ None) ⊎ (header_of 2 (cut_at k (header_slot seq)) ≡ Some seq)
    go true e = valid (leb-true 9 k e) (is_header 2 (cut_at k (header_slot seq)))
    go false e =
        let h = leb-false 9 k e in
        inl
        (header_unversioned (cut_at k (header_slot seq))
        (cut_high (header_slot seq) (header_sixteen seq) k most 8 (omega arith) (omega arith)))
