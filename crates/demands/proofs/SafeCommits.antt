-- A commit is safe: while power lasts it leaves the log that it answers, and where it stops the image wakes with the table of before or of after.
use Rattle.std.specs.Prelude.{Some, None}
use Rattle.basics.specs.Answers.{all_done, is_done, Answer}
use mathlib.Core.Path.{◌≡◌, refl, sym, ap, subst, ◌∙◌}
use mathlib.Core.Bool.{true, false, false≢true}
use mathlib.Core.List.{List, []}
use mathlib.Core.Logic.{◌⊎◌, inl, inr}
use Prim.Native.Nat.{ℕ, zero, suc, ◌+◌, ◌*◌, ◌≤◌, ◌<◌}
use native.Mathlib.Omega.{arith}
use lib.Dec.{eqb}
use lib.ListN.{length}
use borrow.Author.Tests.{eqb-false}
use Rattle.basics.specs.Choice.{pick}
use Rattle.basics.proofs.ChoiceLaws.{by_test}
use Rattle.codec.specs.declared.Raw.{Raw}
use Rattle.codec.specs.Slots.{header_of}
use Rattle.flash.specs.Image.{sectors_in, slot_at}
use Rattle.flash.specs.Run.{Flash, Stepped}
use Rattle.flash.proofs.ImageSectors.{sectors-fit, sectors-whole, sectors_of}
use Rattle.flash.proofs.ImageView.{Fits}
use Rattle.records.specs.declared.State.{State}
use Rattle.records.specs.declared.State.TheVariants.{Unformatted, Failed, Active}
use Rattle.scan.specs.Choosing.{header_at}
use Rattle.scan.specs.Reading.{these}
use Rattle.scan.proofs.ChoosingWinner.{valid_invalid}
use Rattle.scan.proofs.OpeningView.{read_same}
use Rattle.records.specs.Fitting.{seq_max}
use Rattle.sectors.specs.Sectors.{write_sector}
use Rattle.sectors.specs.Commits.{Written, sector_after, commit_from}
use Rattle.sectors.proofs.SectorsTurns.{sector_unerased, after-within}
use Rattle.demands.specs.Seen.{Seen, seen_by, Table, holding, table_in}
use Rattle.demands.proofs.Tables.{Proper}
use Rattle.demands.proofs.Invariant.{Found, Agrees}
use Rattle.demands.proofs.Endings.{Fails, Cut, Still, erase_still, still_on}
use Rattle.demands.proofs.SafeSectors.{Spared, Newest, Sectored, Below, sector_sectored}

-- the sector that a commit skips; a Failed log commits nothing
abbrev pub Avoids : State → ℕ → ℕ → Type 0
Avoids Unformatted n a = a ≡ n
Avoids Failed n a = ⊥
Avoids (Active s seq head) n a = a ≡ s

-- ---- the invariant while other sectors are written
module _ (n a : ℕ) (image : List ℕ) (next : ℕ) (t : List Raw) where
  spared_found : (state : State) → Avoids state n a → Found state n image next t → (left : List ℕ) → Spared n a image left → Found state n left next t
  spared_found Unformatted v f left k = (f.0, f.1, λ s u. go s u (k.others s u))
    where
      go : (s : ℕ) → s < n → (header_at 2 left s ≡ header_at 2 image s) ⊎ (header_at 2 left s ≡ None) → header_at 2 left s ≡ None
      go s u (inl e) = e ∙ f.2 s u
      go s u (inr e) = e
  spared_found Failed v f left k = absurd v
  spared_found (Active s seq head) v f left k = record {
    placed = f.placed;
    wins =
        record {
          within = f.wins.within;
          own = ap (header_of 2) (own 0 (omega arith)) ∙ f.wins.own;
          beats = λ y p u e. beats y p u e (k.others y u);
        };
    erased = λ i l u. own i u ∙ f.erased i l u;
    reads = read_same (slot_at left s) (slot_at image s) seq _ 1 (these []) (λ i l u. own i (omega (arith, f.placed.high))) ∙ f.reads;
  }
    where
      own : (i : ℕ) → i < 256 → slot_at left s i ≡ slot_at image s i
      own = subst (λ (b : ℕ). (i : ℕ) → i < 256 → slot_at left b i ≡ slot_at image b i) v k.own

      beats : (y p : ℕ) → y < n → header_at 2 left y ≡ Some p → (header_at 2 left y ≡ header_at 2 image y) ⊎ (header_at 2 left y ≡ None)
          → (p < seq) ⊎ ((p ≡ seq) × (s ≤ y))
      beats y p u e (inl h) = f.wins.beats y p u (sym h ∙ e)
      beats y p u e (inr h) = absurd (valid_invalid (header_at 2 left y) p h e)

  pub found_below : (state : State) → Avoids state n a → (next ≡ seq_max → ⊥) → Found state n image next t → Below n image next
  found_below Unformatted v m f y p u e = absurd (valid_invalid (header_at 2 image y) p (f.2 y u) e)
  found_below Failed v m f y p u e = absurd v
  found_below (Active s seq head) v m f y p u e = go (f.wins.beats y p u e) f.placed.later
    where
      go : (p < seq) ⊎ ((p ≡ seq) × (s ≤ y)) → (seq < next) ⊎ (next ≡ seq_max) → p < next
      go b (inr c) = absurd (m c)
      go (inl b) (inl c) = omega arith
      go (inr b) (inl c) = omega arith

  found-raised : (state : State) → Avoids state n a → next < seq_max → Found state n image next t → Found state n image (next + 1) t
  found-raised Unformatted v m f = f
  found-raised Failed v m f = absurd v
  found-raised (Active s seq head) v m f = record {
    placed = record { within = f.placed.within; low = f.placed.low; high = f.placed.high; later = go f.placed.later };
    wins = f.wins;
    erased = f.erased;
    reads = f.reads;
  }
    where
      go : (seq < next) ⊎ (next ≡ seq_max) → (seq < next + 1) ⊎ (next + 1 ≡ seq_max)
      go (inl c) = inl (omega arith)
      go (inr c) = absurd (omega arith)

  found_some : (state : State) → Avoids state n a → Found state n image next t → 0 < n
  found_some Unformatted v f = f.1
  found_some Failed v f = absurd v
  found_some (Active s seq head) v f = omega (arith, f.placed.within)

  module _ (state : State) (v : Avoids state n a) (g : Agrees n image state next t) where
    pub agrees-few : n ≤ 16
    agrees-few = omega (arith, g.sized, (sectors-fit (length image)).0)

    pub agrees-size : Fits n image
    agrees-size =
        let some = found_some state v g.found in
        let whole = sectors-whole (length image) (omega (arith, g.sized)) in
        whole ∙ ap (λ (m : ℕ). m * 4096) g.sized

    agrees_spared : (left : List ℕ) → Spared n a image left → Agrees n left state next t
    agrees_spared left k = record {
      sized = ap sectors_in k.size ∙ sectors_of n agrees-few;
      bytes = k.bytes;
      numbered = g.numbered;
      most = g.most;
      proper = g.proper;
      found = spared_found state v g.found left k;
    }

    agrees-raised : next < seq_max → Agrees n image state (next + 1) t
    agrees-raised m = record {
      sized = g.sized;
      bytes = g.bytes;
      numbered = omega arith;
      most = omega arith;
      proper = g.proper;
      found = found-raised state v m g.found;
    }

agrees_newest : (n x seq : ℕ) (t : List Raw) (left : List ℕ) → n ≤ 16 → seq < seq_max → Proper t → Newest n x seq t left
    → Agrees n left (Active x seq (length t + 1)) (seq + 1) t
agrees_newest n x seq t left few m p k = record {
  sized = ap sectors_in k.size ∙ sectors_of n few;
  bytes = k.bytes;
  numbered = omega arith;
  most = omega arith;
  proper = p;
  found = k.standing;
}

-- ---- what a write may come to
-- an image that was cut wakes with what P allows, or with the table of after
pub record Wakes (n : ℕ) (P : Seen → Type 0) (later : Table) (image : List ℕ) : Type 0 where
  pub state : State
  pub next : ℕ
  pub t : List Raw
  pub agrees : Agrees n image state next t
  pub shows : P (seen_by state t) ⊎ (table_in (seen_by state t) ≡ later)

-- old and new are the tables before and after; P says what may be seen of a write that failed, C what must be known of the image of one that was cut
pub data Safe (n : ℕ) (C : List ℕ → Type 0) (P : Seen → Type 0) (old new : List Raw) (w : Written) : Type 0 where
  done : is_done w.answer ≡ true → w.flash.cut ≡ false → Agrees n w.flash.image w.state w.next new
      → table_in (seen_by w.state new) ≡ holding new → Safe n C P old new w
  failed : Fails w.answer → w.flash.cut ≡ false → Agrees n w.flash.image w.state w.next old → P (seen_by w.state old)
      → Safe n C P old new w
  stopped : Fails w.answer → Cut w.flash → (C w.flash.image → Wakes n P (holding new) w.flash.image) → Safe n C P old new w

-- after a cut nothing changes any more
abbrev pub StillWrote : Flash → Written → Type 0
StillWrote f w = Still f w.answer w.flash

still_safe : (n : ℕ) (C : List ℕ → Type 0) (P : Seen → Type 0) (old new : List Raw) (f : Flash) (w : Written) → StillWrote f w
    → (C f.image → Wakes n P (holding new) f.image) → Safe n C P old new w
still_safe n C P old new f w s k = stopped s.fails s.cut (λ c. subst (Wakes n P (holding new)) (sym s.same) (k (subst C s.same c)))

sector_still : (s seq : ℕ) (t : List Raw) (f : Flash) → Cut f → Still f (write_sector s seq t f).answer (write_sector s seq t f).flash
sector_still s seq t f c =
    let e = erase_still f c s in
    subst (λ (o : Stepped). Still f o.answer o.flash) (sym (sector_unerased s seq t f e.fails)) e

pub commit_still : (m n a s : ℕ) (t : List Raw) (last : Answer) (state : State) (next : ℕ) (f : Flash) → Cut f → Fails last
    → StillWrote f (commit_from m n a s t last state next f)
unfolding commit_from
commit_still zero n a s t last state next f c h = record { fails = h; same = refl; cut = c }
commit_still (suc m) n a s t last state next f c h =
    by_test (StillWrote f) (eqb s a) _ _ (λ _. commit_still m n a (sector_after n s) t last state next f c h)
    (λ _. by_test (StillWrote f) (eqb next seq_max) _ _ (λ _. record { fails = refl; same = refl; cut = c })
    (λ _. by_test (StillWrote f) (is_done (write_sector s next t f).answer) _ _ (λ d. absurd (false≢true (sym (sector_still s next t f c).fails ∙ d)))
    (λ _.
    let e = sector_still s next t f c in
    still_on f (write_sector s next t f).flash _ (write_sector s next t f).answer _ e
    (commit_still m n a (sector_after n s) t (write_sector s next t f).answer state (next + 1) (write_sector s next t f).flash e.cut e.fails))))

module _ (n a : ℕ) (C : List ℕ → Type 0) (P : Seen → Type 0) (state : State) (v : Avoids state n a) (old new : List Raw)
    (proper : Proper new) (p : P (seen_by state old)) where
  abbrev Fine : Written → Type 0
  Fine w = Safe n C P old new w

  -- one sector was written, and `rest` is what follows where that failed
  one-sector : (s next : ℕ) (f : Flash) (o : Stepped) (rest : Written) → next < seq_max → Agrees n f.image state next old
      → Sectored n a s next new f o
      → (o.flash.cut ≡ false → Agrees n o.flash.image state (next + 1) old → Fails o.answer → Fine rest)
      → (Cut o.flash → Fails o.answer → StillWrote o.flash rest)
      → Fine (pick (is_done o.answer) (record { answer = all_done; state = Active s next (length new + 1); next = next + 1; flash = o.flash }) rest)
  one-sector s next f o rest m g (Sectored.failed i e c k) on still =
      rw e (on c (agrees-raised n a o.flash.image next old state v (agrees_spared n a f.image next old state v g o.flash.image k) m) e)
  one-sector s next f o rest m g (Sectored.done i e c k u) on still =
      rw e (done refl c (agrees_newest n s next new o.flash.image (agrees-few n a f.image next old state v g) m proper k) refl)
  one-sector s next f o rest m g (Sectored.stopped i e c k) on still = rw e (still_safe n C P old new o.flash rest (still c e) (λ _. go k))
    where
      go : (Spared n a f.image o.flash.image) ⊎ (Newest n s next new o.flash.image) → Wakes n P (holding new) o.flash.image
      go (inl z) =
          record {
            state = state;
            next = next;
            t = old;
            agrees = agrees_spared n a f.image next old state v g o.flash.image z;
            shows = inl p;
          }
      go (inr z) =
          record {
            state = Active s next (length new + 1);
            next = next + 1;
            t = new;
            agrees = agrees_newest n s next new o.flash.image (agrees-few n a f.image next old state v g) m proper z;
            shows = inr refl;
          }

  pub commit-safe : (m s : ℕ) (last : Answer) (next : ℕ) (f : Flash) → s < n → f.cut ≡ false → Fails last
      → Agrees n f.image state next old → Fine (commit_from m n a s new last state next f)
  unfolding commit_from
  commit-safe zero s last next f within on h g = failed h on g p
  commit-safe (suc m) s last next f within on h g =
      by_test Fine (eqb s a) _ _ (λ _. commit-safe m (sector_after n s) last next f (after-within n s within) on h g)
      (λ sa. by_test Fine (eqb next seq_max) _ _ (λ _. failed refl on g p)
      (λ nm.
      let below-most = eqb-false next seq_max nm in
      let lt : next < seq_max = omega (arith, g.most) in
      one-sector s next f (write_sector s next new f) _ lt g
      (sector_sectored n a s next within (eqb-false s a sa) lt new proper f (agrees-size n a f.image next old state v g) g.bytes
      (found_below n a f.image next old state v below-most g.found) on)
      (λ c i e.
      commit-safe m (sector_after n s) (write_sector s next new f).answer (next + 1) (write_sector s next new f).flash
      (after-within n s within) c e i)
      (λ c e. commit_still m n a (sector_after n s) new (write_sector s next new f).answer state (next + 1) (write_sector s next new f).flash c e)))
