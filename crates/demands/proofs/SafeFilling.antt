-- Filling a sector that is erased: the records of a table, slot after slot, and what is left where that fails or stops.
use mathlib.Core.Path.{◌≡◌, refl, sym, ap, subst, ◌∙◌}
use mathlib.Core.Bool.{true, false}
use mathlib.Core.List.{List, [], ◌∷◌}
use Prim.Native.Nat.{ℕ, suc, ◌+◌, ◌*◌, ◌^◌, ◌≤◌, ◌<◌}
use native.Mathlib.Omega.{arith}
use lib.Dec.{T}
use lib.ListN.{length, replicate}
use lib.Pow.{are_bytes}
use Rattle.basics.specs.Choice.{pick}
use Rattle.basics.specs.Answers.{is_done}
use Rattle.codec.specs.declared.Raw.{Raw}
use Rattle.codec.specs.Slots.{slot_of}
use Rattle.flash.specs.Image.{slot_at, with_slot}
use Rattle.flash.specs.Run.{Flash, Stepped, program}
use Rattle.flash.proofs.ImageView.{Fits, with-slot-length, with-slot-here, with-slot-beside, with-slot-apart, with-slot-bytes}
use Rattle.records.proofs.LogsOwned.{AllWhole}
use Rattle.sectors.specs.Sectors.{write_records}
use Rattle.demands.specs.Chance.{cut_at}
use Rattle.demands.specs.Healthy.{Healthy}
use Rattle.demands.proofs.Torn.{slot-sixteen, slot-bytes, cut-length, cut-bytes}
use Rattle.demands.proofs.Tables.{Written}
use Rattle.demands.proofs.Endings.{Fails, Cut, Used, Ran, program_ran}

-- ---- what a change leaves
-- of sector x only slots from k on changed, and nothing elsewhere
pub record Beyond (n x k : ℕ) (image left : List ℕ) : Type 0 where
  pub size : Fits n left
  pub bytes : T (are_bytes left)
  pub away : (y i : ℕ) → (y ≡ x → ⊥) → i < 256 → slot_at left y i ≡ slot_at image y i
  pub under : (i : ℕ) → i < k → slot_at left x i ≡ slot_at image x i

module _ (n x : ℕ) (within : x < n) (k : ℕ) (image : List ℕ) (size : Fits n image) (t : T (are_bytes image)) where
  pub beyond_same : (left : List ℕ) → left ≡ image → Beyond n x k image left
  beyond_same left e = subst (Beyond n x k image) (sym e) (record { size = size; bytes = t; away = λ y i a u. refl; under = λ i u. refl })

  pub beyond_put : k < 256 → (slot : List ℕ) → length slot ≡ 16 → T (are_bytes slot) → (left : List ℕ) → left ≡ with_slot x k slot image
      → Beyond n x k image left
  beyond_put h slot sixteen b left e =
      subst (Beyond n x k image) (sym e) (record {
        size = with-slot-length n image size x within k h slot sixteen ∙ size;
        bytes = with-slot-bytes image t slot b x k;
        away = with-slot-apart n image size x within k h slot sixteen;
        under = λ i u. with-slot-beside n image size x within k h slot sixteen i (λ z. omega arith);
      })

beyond_on : (n x k j : ℕ) (image middle left : List ℕ) → k ≤ j → Beyond n x k image middle → Beyond n x j middle left → Beyond n x k image left
beyond_on n x k j image middle left h a b = record {
  size = b.size;
  bytes = b.bytes;
  away = λ y i z u. b.away y i z u ∙ a.away y i z u;
  under = λ i u. b.under i (omega arith) ∙ a.under i u;
}

-- ---- the records
pub data Filled (n x seq k : ℕ) (t : List Raw) (f : Flash) (o : Stepped) : Type 0 where
  failed : (Healthy f → ⊥) → Fails o.answer → o.flash.cut ≡ false → Beyond n x k f.image o.flash.image → Filled n x seq k t f o
  done : (Healthy f → Healthy o.flash) → is_done o.answer ≡ true → o.flash.cut ≡ false → Beyond n x k f.image o.flash.image
      → Written seq (slot_at o.flash.image x) k t
      → ((i : ℕ) → k + length t ≤ i → i < 256 → slot_at o.flash.image x i ≡ replicate 16 0xFF)
      → Used (16 * length t) 0 f o.flash → Filled n x seq k t f o
  stopped : (Healthy f → ⊥) → Fails o.answer → Cut o.flash → Beyond n x k f.image o.flash.image → Filled n x seq k t f o

module _ (n x seq : ℕ) (within : x < n) (fits : seq < 2 ^ 32) where
  -- one record stands, and the rest follows
  fill_on : (k : ℕ) (r : Raw) (t : List Raw) (f g : Flash) (o : Stepped) → k < 256 → (Healthy f → Healthy g) → Used 16 0 f g
      → Beyond n x k f.image g.image
      → slot_at g.image x k ≡ slot_of seq r → Filled n x seq (suc k) t g o → Filled n x seq k (r ∷ t) f o
  unfolding Written
  fill_on k r t f g o h w u a e (failed i d c b) =
      failed (λ z. i (w z)) d c (beyond_on n x k (suc k) f.image g.image o.flash.image (omega arith) a b)
  fill_on k r t f g o h w u a e (done i d c b l z v) =
      done (λ y. i (w y)) d c (beyond_on n x k (suc k) f.image g.image o.flash.image (omega arith) a b)
      (b.under k (omega arith) ∙ e, l) (λ j p q. z j (omega arith) q)
      (record { programmed = omega (arith, u.programmed, v.programmed); erased = omega (arith, u.erased, v.erased) })
  fill_on k r t f g o h w u a e (stopped i d c b) =
      stopped (λ z. i (w z)) d c (beyond_on n x k (suc k) f.image g.image o.flash.image (omega arith) a b)

  pub records_filled : (t : List Raw) (k : ℕ) (f : Flash) → f.cut ≡ false → Fits n f.image → T (are_bytes f.image) → AllWhole t
      → k + length t ≤ 256
      → ((i : ℕ) → k ≤ i → i < 256 → slot_at f.image x i ≡ replicate 16 0xFF) → Filled n x seq k t f (write_records x seq k t f)
  unfolding write_records AllWhole Written
  records_filled [] k f on size bytes whole h blank =
      done (λ w. w) refl on (beyond_same n x within k f.image size bytes f.image refl) tt (λ i l u. blank i (omega arith) u)
      (record { programmed = omega arith; erased = omega arith })
  records_filled (r ∷ t) k f on size bytes whole h blank =
      go (program_ran x k slot f on (blank k (omega arith) (omega arith)) sixteen fine)
      (λ c a y. records_filled t (suc k) o.flash c a.size a.bytes whole.1 (omega arith) y)
    where
      slot : List ℕ
      slot = slot_of seq r

      o : Stepped
      o = program x k slot f

      sixteen : length slot ≡ 16
      sixteen = slot-sixteen seq fits r whole.0

      fine : T (are_bytes slot)
      fine = slot-bytes seq fits r whole.0

      put : (j : ℕ) → j ≤ 16 → o.flash.image ≡ with_slot x k (cut_at j slot) f.image → Beyond n x k f.image o.flash.image
      put j m =
          beyond_put n x within k f.image size bytes (omega arith) (cut_at j slot) (cut-length slot sixteen j m)
          (cut-bytes slot sixteen j m fine) o.flash.image

      go : Ran x k slot f o
          → (o.flash.cut ≡ false → Beyond n x k f.image o.flash.image
          → ((i : ℕ) → suc k ≤ i → i < 256 → slot_at o.flash.image x i ≡ replicate 16 0xFF)
          → Filled n x seq (suc k) t o.flash (write_records x seq (suc k) t o.flash))
          → Filled n x seq k (r ∷ t) f (pick (is_done o.answer) (write_records x seq (suc k) t o.flash) o)
      go (Ran.refused w e c i) ih = rw e (failed w e c (beyond_same n x within k f.image size bytes o.flash.image i))
      go (Ran.done w e c i u) ih =
          let b = beyond_put n x within k f.image size bytes (omega arith) slot sixteen fine o.flash.image i in
          let here = ap (λ (l : List ℕ). slot_at l x k) i ∙ with-slot-here n f.image size x within k (omega arith) slot sixteen in
          let behind : (j : ℕ) → suc k ≤ j → j < 256 → slot_at o.flash.image x j ≡ replicate 16 0xFF =
          λ j l m.
          ap (λ (y : List ℕ). slot_at y x j) i
          ∙ with-slot-beside n f.image size x within k (omega arith) slot sixteen j (λ z. omega arith)
          ∙ blank j (omega arith) m in
          rw e (fill_on k r t f o.flash (write_records x seq (suc k) t o.flash) (omega arith) w u b here (ih c b behind))
      go (Ran.stopped w e c j l i) ih = rw e (stopped w e c (put j (omega arith) i))
