-- Writing a sector: while it lasts the other sectors stay as they are and no header of it reads, until the header, last, makes it the winner.
use Rattle.std.specs.Prelude.{Some, None}
use mathlib.Core.Path.{◌≡◌, refl, sym, ap, subst, ◌∙◌}
use mathlib.Core.Bool.{Bool, true, false}
use mathlib.Core.List.{List, []}
use mathlib.Core.Logic.{◌⊎◌, inl, inr}
use Prim.Native.Nat.{ℕ, zero, suc, ◌+◌, ◌-◌, ◌*◌, ◌≤◌, ◌<◌}
use native.Mathlib.Omega.{arith}
use lib.Dec.{T, eqb}
use lib.ListN.{length, get_or, replicate}
use lib.Pow.{are_bytes}
use borrow.Author.Tests.{eqb-true, eqb-false}
use Rattle.basics.specs.Answers.{is_done}
use Rattle.codec.specs.declared.Raw.{Raw}
use Rattle.codec.specs.Slots.{header_slot, header_of}
use Rattle.codec.proofs.SlotsRoundTrip.{header_read}
use Rattle.flash.specs.Image.{slot_at, sector_at, with_slot, with_sector}
use Rattle.flash.specs.Run.{Flash, Stepped, blanked, program, erase}
use Rattle.flash.proofs.ImageView.{Fits, with-slot-here, with-slot-beside, erased-none, erased-first, erased-slot}
use Rattle.flash.proofs.RunLaws.{erase-bytes, erase-fits, erase-apart}
use Rattle.scan.specs.Choosing.{header_at}
use Rattle.scan.specs.Reading.{these, read_from}
use Rattle.scan.proofs.ChoosingWinner.{valid_same}
use Rattle.records.specs.Fitting.{seq_max}
use Rattle.sectors.specs.Sectors.{write_records, write_sector}
use Rattle.sectors.proofs.SectorsTurns.{sector_unerased, sector_unfilled, sector-headed}
use Rattle.demands.specs.Chance.{cut_at}
use Rattle.demands.specs.Healthy.{Healthy}
use Rattle.demands.proofs.Torn.{header_sixteen, header-bytes, cut-length, cut-bytes, header_none, cut_header}
use Rattle.demands.proofs.Tables.{Proper, Written, written_same, read-written}
use Rattle.demands.proofs.Invariant.{Standing}
use Rattle.demands.proofs.Endings.{Fails, Cut, Used, Ran, program_ran, Wiped, erase-wiped}
use Rattle.demands.proofs.SafeFilling.{Beyond, beyond_put, Filled, records_filled}

-- sector a is untouched, and elsewhere a header stays or goes
pub record Spared (n a : ℕ) (image left : List ℕ) : Type 0 where
  pub size : Fits n left
  pub bytes : T (are_bytes left)
  pub own : (i : ℕ) → i < 256 → slot_at left a i ≡ slot_at image a i
  pub others : (y : ℕ) → y < n → (header_at 2 left y ≡ header_at 2 image y) ⊎ (header_at 2 left y ≡ None)

-- sector x of an image is the newest, and holds t and nothing else
pub record Newest (n x seq : ℕ) (t : List Raw) (left : List ℕ) : Type 0 where
  pub size : Fits n left
  pub bytes : T (are_bytes left)
  pub standing : Standing n left x seq (length t + 1) (seq + 1) t

pub data Sectored (n a x seq : ℕ) (t : List Raw) (f : Flash) (o : Stepped) : Type 0 where
  failed : (Healthy f → ⊥) → Fails o.answer → o.flash.cut ≡ false → Spared n a f.image o.flash.image → Sectored n a x seq t f o
  done : (Healthy f → Healthy o.flash) → is_done o.answer ≡ true → o.flash.cut ≡ false → Newest n x seq t o.flash.image
      → Used (16 * (length t + 1)) 4096 f o.flash → Sectored n a x seq t f o
  stopped : (Healthy f → ⊥) → Fails o.answer → Cut o.flash
      → (Spared n a f.image o.flash.image) ⊎ (Newest n x seq t o.flash.image) → Sectored n a x seq t f o

-- every valid header has a lower seq
abbrev pub Below : ℕ → List ℕ → ℕ → Type 0
Below n image seq = (y p : ℕ) → y < n → header_at 2 image y ≡ Some p → p < seq

module _ (n a x seq : ℕ) (within : x < n) (apart : x ≡ a → ⊥) (fits : seq < seq_max) (t : List Raw) (proper : Proper t)
    (f : Flash) (size : Fits n f.image) (bytes : T (are_bytes f.image)) (below : Below n f.image seq) where
  abbrev image : List ℕ
  image = f.image

  spared_same : (left : List ℕ) → left ≡ image → Spared n a image left
  spared_same left e = subst (Spared n a image) (sym e) (record { size = size; bytes = bytes; own = λ i u. refl; others = λ y u. inl refl })

  -- only sector x changed, and its header is gone
  spared_gone : (left : List ℕ) → Fits n left → T (are_bytes left) → ((y i : ℕ) → (y ≡ x → ⊥) → i < 256 → slot_at left y i ≡ slot_at image y i)
      → header_at 2 left x ≡ None → Spared n a image left
  spared_gone left fit b away gone = record {
    size = fit;
    bytes = b;
    own = λ i u. away a i (λ e. apart (sym e)) u;
    others = λ y u. go y (eqb y x) refl;
  }
    where
      go : (y : ℕ) (c : Bool) → eqb y x ≡ c → (header_at 2 left y ≡ header_at 2 image y) ⊎ (header_at 2 left y ≡ None)
      go y true e = inr (ap (header_at 2 left) (eqb-true y x e) ∙ gone)
      go y false e = inl (ap (header_of 2) (away y 0 (eqb-false y x e) (omega arith)))

  -- ---- the header over the records
  module _ (full : List ℕ) (fit : Fits n full) (b : T (are_bytes full)) (away : (y i : ℕ) → (y ≡ x → ⊥) → i < 256 → slot_at full y i ≡ slot_at image y i)
      (written : Written seq (slot_at full x) 1 t) (rest : (i : ℕ) → 1 + length t ≤ i → i < 256 → slot_at full x i ≡ replicate 16 0xFF)
      (slot : List ℕ) (sixteen : length slot ≡ 16) (fine : T (are_bytes slot)) (left : List ℕ) (is : left ≡ with_slot x 0 slot full) where
    put : Beyond n x 0 full left
    put = beyond_put n x within 0 full fit b (omega arith) slot sixteen fine left is

    away-left : (y i : ℕ) → (y ≡ x → ⊥) → i < 256 → slot_at left y i ≡ slot_at image y i
    away-left y i z u = put.away y i z u ∙ away y i z u

    own-left : header_at 2 left x ≡ header_of 2 slot
    own-left = ap (header_of 2) (ap (λ (l : List ℕ). slot_at l x 0) is ∙ with-slot-here n full fit x within 0 (omega arith) slot sixteen)

    slots-left : (i : ℕ) → 1 ≤ i → slot_at left x i ≡ slot_at full x i
    slots-left i u = ap (λ (l : List ℕ). slot_at l x i) is ∙ with-slot-beside n full fit x within 0 (omega arith) slot sixteen i (λ z. omega arith)

    unheaded : header_of 2 slot ≡ None → Spared n a image left
    unheaded e = spared_gone left put.size put.bytes away-left (own-left ∙ e)

    reads-left : read_from (length t + 1 - 1) 1 seq (slot_at left x) (these []) ≡ these t
    reads-left =
        let all : length t + 1 - 1 ≡ length t = omega arith in
        ap (λ (m : ℕ). read_from m 1 seq (slot_at left x) (these [])) all
        ∙ read-written seq (slot_at left x) t proper (written_same seq (slot_at full x) (slot_at left x) 1 t (λ i l u. slots-left i l) written)

    headed : header_of 2 slot ≡ Some seq → Newest n x seq t left
    headed e = record {
      size = put.size;
      bytes = put.bytes;
      standing = record {
        placed = record { within = within; low = omega arith; high = omega (arith, proper.few); later = inl (omega arith) };
        wins = record { within = within; own = own-left ∙ e; beats = λ y p u v. beats y p u v (eqb y x) refl };
        erased = λ i l u. slots-left i (omega arith) ∙ rest i (omega arith) u;
        reads = reads-left;
      };
    }
      where
        beats : (y p : ℕ) → y < n → header_at 2 left y ≡ Some p → (c : Bool) → eqb y x ≡ c → (p < seq) ⊎ ((p ≡ seq) × (x ≤ y))
        beats y p u v true z =
            let here = eqb-true y x z in
            inr (valid_same (header_at 2 left x) p seq (ap (header_at 2 left) (sym here) ∙ v) (own-left ∙ e), omega arith)
        beats y p u v false z = inl (below y p u (sym (ap (header_of 2) (away-left y 0 (eqb-false y x z) (omega arith))) ∙ v))

  -- ---- erased, filled, headed
  abbrev wiped : List ℕ
  wiped = with_sector x (blanked 4096 (sector_at image x)) image

  module _ (g : Flash) (w : Healthy f → Healthy g) (on : g.cut ≡ false) (is : g.image ≡ wiped) (u : Used 0 4096 f g)
      (fit : Fits n g.image) (b : T (are_bytes g.image))
      (away : (y i : ℕ) → (y ≡ x → ⊥) → i < 256 → slot_at g.image y i ≡ slot_at image y i) where
    blank : (i : ℕ) → i < 256 → slot_at g.image x i ≡ replicate 16 0xFF
    blank i h = ap (λ (l : List ℕ). slot_at l x i) is ∙ erased-slot n image size x within i h

    beyond_away : (left : List ℕ) → Beyond n x 1 g.image left → (y i : ℕ) → (y ≡ x → ⊥) → i < 256 → slot_at left y i ≡ slot_at image y i
    beyond_away left v y i z h = v.away y i z h ∙ away y i z h

    -- slot 0 is blank as long as the records are written
    beyond_blank : (left : List ℕ) → Beyond n x 1 g.image left → slot_at left x 0 ≡ replicate 16 0xFF
    beyond_blank left v = v.under 0 (omega arith) ∙ blank 0 (omega arith)

    beyond_spared : (left : List ℕ) → Beyond n x 1 g.image left → Spared n a image left
    beyond_spared left v =
        spared_gone left v.size v.bytes (beyond_away left v)
        (header_none (slot_at left x 0) (ap (λ (l : List ℕ). get_or l 0 0) (beyond_blank left v)))

    header_sectored : (h : Flash) → (Healthy g → Healthy h) → h.cut ≡ false → Beyond n x 1 g.image h.image
        → Written seq (slot_at h.image x) 1 t
        → ((i : ℕ) → 1 + length t ≤ i → i < 256 → slot_at h.image x i ≡ replicate 16 0xFF) → Used (16 * length t) 0 g h
        → Sectored n a x seq t f (program x 0 (header_slot seq) h)
    header_sectored h v c k written rest used =
        go (program_ran x 0 (header_slot seq) h c (beyond_blank h.image k) (header_sixteen seq) (header-bytes seq (omega arith)))
      where
        o : Stepped
        o = program x 0 (header_slot seq) h

        go : Ran x 0 (header_slot seq) h o → Sectored n a x seq t f o
        go (Ran.refused i e d j) = failed (λ z. i (v (w z))) e d (subst (Spared n a image) (sym j) (beyond_spared h.image k))
        go (Ran.done i e d j s) =
            done (λ z. i (v (w z))) e d
            (headed h.image k.size k.bytes (beyond_away h.image k) written rest (header_slot seq) (header_sixteen seq)
            (header-bytes seq (omega arith)) o.flash.image j (header_read seq))
            (record {
              programmed = omega (arith, u.programmed, used.programmed, s.programmed);
              erased = omega (arith, u.erased, used.erased, s.erased);
            })
        go (Ran.stopped i e d j l m) = stopped (λ z. i (v (w z))) e d (parts (cut_header seq j (omega arith)))
          where
            slot : List ℕ
            slot = cut_at j (header_slot seq)

            sixteen : length slot ≡ 16
            sixteen = cut-length (header_slot seq) (header_sixteen seq) j (omega arith)

            fine : T (are_bytes slot)
            fine = cut-bytes (header_slot seq) (header_sixteen seq) j (omega arith) (header-bytes seq (omega arith))

            parts : (header_of 2 slot ≡ None) ⊎ (header_of 2 slot ≡ Some seq)
                → (Spared n a image o.flash.image) ⊎ (Newest n x seq t o.flash.image)
            parts (inl z) =
                inl
                (unheaded h.image k.size k.bytes (beyond_away h.image k) written rest slot sixteen fine o.flash.image m
                z)
            parts (inr z) =
                inr (headed h.image k.size k.bytes (beyond_away h.image k) written rest slot sixteen fine o.flash.image m z)

  -- ---- by how the erase ended
  abbrev first : Stepped
  first = erase x f

  away-first : (y i : ℕ) → (y ≡ x → ⊥) → i < 256 → slot_at first.flash.image y i ≡ slot_at image y i
  away-first = erase-apart x f n size within

  erased_sectored : (Healthy f → Healthy first.flash) → is_done first.answer ≡ true → first.flash.cut ≡ false
      → first.flash.image ≡ wiped → Used 0 4096 f first.flash
      → Sectored n a x seq t f (write_sector x seq t f)
  erased_sectored w e on is u =
      go
      (records_filled n x seq within (omega arith) t 1 g on fit b proper.whole (omega (arith, proper.few))
      (λ i l h. blank g w on is u fit b away-first i h))
    where
      g : Flash
      g = first.flash

      fit : Fits n g.image
      fit = erase-fits x f n size within

      b : T (are_bytes g.image)
      b = erase-bytes x f bytes

      second : Stepped
      second = write_records x seq 1 t g

      go : Filled n x seq 1 t g second → Sectored n a x seq t f (write_sector x seq t f)
      go (Filled.failed i d c k) =
          subst (Sectored n a x seq t f) (sym (sector_unfilled x seq t f e d))
          (failed (λ z. i (w z)) d c (beyond_spared g w on is u fit b away-first second.flash.image k))
      go (Filled.done i d c k l r v) =
          subst (Sectored n a x seq t f) (sym (sector-headed x seq t f e d))
          (header_sectored g w on is u fit b away-first second.flash i c k l r v)
      go (Filled.stopped i d c k) =
          subst (Sectored n a x seq t f) (sym (sector_unfilled x seq t f e d))
          (stopped (λ z. i (w z)) d c (inl (beyond_spared g w on is u fit b away-first second.flash.image k)))

  -- an erase that was cut took the header with its first byte
  stopped_spared : (j : ℕ) → j < 4096 → first.flash.image ≡ with_sector x (blanked j (sector_at image x)) image
      → Spared n a image first.flash.image
  stopped_spared zero h is = spared_same first.flash.image (is ∙ erased-none image x)
  stopped_spared (suc j) h is =
      spared_gone first.flash.image (erase-fits x f n size within) (erase-bytes x f bytes) away-first
      (header_none (slot_at first.flash.image x 0)
      (ap (λ (l : List ℕ). get_or (slot_at l x 0) 0 0) is ∙ erased-first n image size x within (suc j) (omega arith) (omega arith)))

  pub sector_sectored : f.cut ≡ false → Sectored n a x seq t f (write_sector x seq t f)
  sector_sectored on = go (erase-wiped x f on)
    where
      go : Wiped x f first → Sectored n a x seq t f (write_sector x seq t f)
      go (Wiped.refused i e c is) =
          subst (Sectored n a x seq t f) (sym (sector_unerased x seq t f e)) (failed i e c (spared_same first.flash.image is))
      go (Wiped.done i e c is u) = erased_sectored i e c is u
      go (Wiped.stopped i e c j h is) =
          subst (Sectored n a x seq t f) (sym (sector_unerased x seq t f e)) (stopped i e c (inl (stopped_spared j h is)))
