-- What every program and every erase keeps is kept by sectors, commits and appends, which are made of them: one induction for all such facts.
use Rattle.std.specs.Prelude.{Err}
use mathlib.Core.List.{List, [], ◌∷◌}
use Prim.Native.Nat.{ℕ, zero, suc, ◌+◌, ◌≤◌, ◌<◌}
use native.Mathlib.Omega.{arith}
use lib.Dec.{eqb}
use lib.ListN.{length}
use borrow.Author.Tests.{eqb-false}
use mathlib.Core.Path.{◌≡◌}
use Rattle.records.specs.Fitting.{seq_max}
use Rattle.basics.specs.Answers.{is_done, Answer}
use Rattle.basics.specs.declared.Refusal.TheVariants.{WriteError}
use Rattle.basics.proofs.ChoiceLaws.{by_test}
use Rattle.codec.specs.declared.Raw.{Raw}
use Rattle.codec.specs.Slots.{slot_of, header_slot}
use Rattle.flash.specs.Run.{Flash, Stepped, program, erase}
use Rattle.records.specs.declared.State.{State}
use Rattle.records.specs.declared.State.TheVariants.{Active}
use Rattle.sectors.specs.Sectors.{on_done, write_records, write_sector}
use Rattle.sectors.specs.Commits.{Written, sector_after, commit_from}
use Rattle.sectors.specs.Appends.{SlotTries, tries_from, append_of}
use Rattle.sectors.proofs.SectorsTurns.{after-within}

-- R holds between a flash and what a step makes of it, where the step may be taken
module _ (R : Flash → Flash → Type 0) (stays : (f : Flash) → R f f) (follows : (f g h : Flash) → R f g → R g h → R f h)
    (Slot : ℕ → ℕ → Type 0) (Sector : ℕ → Type 0)
    (programs : (s k : ℕ) (new : List ℕ) (f : Flash) → Slot s k → R f (program s k new f).flash)
    (erases : (s : ℕ) (f : Flash) → Sector s → R f (erase s f).flash) where
  pub records_trace : (s seq k : ℕ) (t : List Raw) (f : Flash) → ((i : ℕ) → k ≤ i → i < k + length t → Slot s i)
      → R f (write_records s seq k t f).flash
  unfolding write_records
  records_trace s seq k [] f may = stays f
  records_trace s seq k (r ∷ t) f may =
      by_test (λ (o : Stepped). R f o.flash) (is_done (program s k (slot_of seq r) f).answer) _ _
      (λ _. follows f (program s k (slot_of seq r) f).flash _ (programs s k (slot_of seq r) f (may k (omega arith) (omega arith)))
      (records_trace s seq (suc k) t (program s k (slot_of seq r) f).flash (λ i l u. may i (omega arith) (omega arith))))
      (λ _. programs s k (slot_of seq r) f (may k (omega arith) (omega arith)))

  done_trace : (f : Flash) (o : Stepped) (next : Flash → Stepped) → R f o.flash → ((g : Flash) → R g (next g).flash) → R f (on_done o next).flash
  done_trace f o next a b =
      by_test (λ (x : Stepped). R f x.flash) (is_done o.answer) (next o.flash) o
      (λ _. follows f o.flash (next o.flash).flash a (b o.flash)) (λ _. a)

  pub sector_trace : (s seq : ℕ) (t : List Raw) (f : Flash) → Sector s → ((i : ℕ) → i ≤ length t → Slot s i) → R f (write_sector s seq t f).flash
  unfolding write_sector
  sector_trace s seq t f wipe may =
      done_trace f (erase s f) (λ (g : Flash). on_done (write_records s seq 1 t g) (λ (h : Flash). program s 0 (header_slot seq) h)) (erases s f wipe)
      (λ g. done_trace g (write_records s seq 1 t g) (λ (h : Flash). program s 0 (header_slot seq) h) (records_trace s seq 1 t g (λ i l u. may i (omega arith)))
      (λ h. programs s 0 (header_slot seq) h (may 0 (omega arith))))

  -- a commit writes sectors of the image other than the one that it avoids
  module _ (n a : ℕ) (t : List Raw) (wipe : (s : ℕ) → s < n → (s ≡ a → ⊥) → Sector s)
      (may : (s i : ℕ) → s < n → (s ≡ a → ⊥) → i ≤ length t → Slot s i) where
    one_trace : (s next : ℕ) (f : Flash) → s < n → (s ≡ a → ⊥) → R f (write_sector s next t f).flash
    one_trace s next f within apart = sector_trace s next t f (wipe s within apart) (λ i l. may s i within apart l)

    pub commit_trace : (m s : ℕ) (last : Answer) (state : State) (next : ℕ) (f : Flash) → s < n → R f (commit_from m n a s t last state next f).flash
    unfolding commit_from
    commit_trace zero s last state next f within = stays f
    commit_trace (suc m) s last state next f within =
        by_test (λ (w : Written). R f w.flash) (eqb s a) _ _ (λ _. commit_trace m (sector_after n s) last state next f (after-within n s within))
        (λ e. by_test (λ (w : Written). R f w.flash) (eqb next seq_max) _ _ (λ _. stays f)
        (λ _. by_test (λ (w : Written). R f w.flash) (is_done (write_sector s next t f).answer) _ _ (λ _. one_trace s next f within (eqb-false s a e))
        (λ _. follows f (write_sector s next t f).flash _ (one_trace s next f within (eqb-false s a e))
        (commit_trace m (sector_after n s) (write_sector s next t f).answer state (next + 1) (write_sector s next t f).flash
        (after-within n s within)))))

  -- tries program the slots from head on
  pub tries_trace : (m s head : ℕ) (bytes : List ℕ) (last : Answer) (f : Flash) → head ≤ 256
      → ((i : ℕ) → head ≤ i → i < head + m → i < 256 → Slot s i) → R f (tries_from m s head bytes last f).flash
  unfolding tries_from
  tries_trace zero s head bytes last f high may = stays f
  tries_trace (suc m) s head bytes last f high may =
      by_test (λ (o : SlotTries). R f o.flash) (eqb head 256) _ _ (λ _. stays f)
      (λ e.
      let unlike = eqb-false head 256 e in
      let room : head < 256 = omega arith in
      let one = programs s head bytes f (may head (omega arith) (omega arith) room) in
      by_test (λ (o : SlotTries). R f o.flash) (is_done (program s head bytes f).answer) _ _ (λ _. one)
      (λ _. follows f (program s head bytes f).flash _ one
      (tries_trace m s (head + 1) bytes (program s head bytes f).answer (program s head bytes f).flash (omega arith)
      (λ i l u z. may i (omega arith) (omega arith) z))))

  pub append_trace : (n s seq head next : ℕ) (r : Raw) (t : List Raw) (f : Flash) → s < n → head ≤ 256
      → ((i : ℕ) → head ≤ i → i < head + 3 → i < 256 → Slot s i)
      → ((x : ℕ) → x < n → (x ≡ s → ⊥) → Sector x) → ((x i : ℕ) → x < n → (x ≡ s → ⊥) → i ≤ length t → Slot x i)
      → R f (append_of n s seq head next r t f).flash
  unfolding append_of
  append_trace n s seq head next r t f within high tried wipe may =
      let o = tries_from 3 s head (slot_of seq r) (Err WriteError) f in
      let one = tries_trace 3 s head (slot_of seq r) (Err WriteError) f high tried in
      by_test (λ (w : Written). R f w.flash) o.full _ _
      (λ _.
      follows f o.flash _ one
      (commit_trace n s t wipe may n (sector_after n s) (Err WriteError) (Active s seq o.head) next o.flash
      (after-within n s within)))
      (λ _. one)
