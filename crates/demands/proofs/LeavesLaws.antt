-- What a write that failed leaves: the state but for head, and the active sector's bytes but for the slots tried.
use Rattle.std.specs.Prelude.{Err}
use mathlib.Core.Path.{◌≡◌, refl, sym, ap, ap₂, subst, ◌∙◌}
use mathlib.Core.Bool.{Bool, true, false, false≢true}
use mathlib.Core.List.{List, []}
use mathlib.Core.Logic.{◌⊎◌, inl, inr}
use Prim.Native.Nat.{ℕ, zero, suc, ◌+◌, ◌≤◌, ◌<◌}
use native.Mathlib.Omega.{arith}
use lib.Dec.{eqb}
use lib.ListN.{length, length-take}
use borrow.Author.Tests.{eqb-true}
use Rattle.basics.specs.Choice.{pick}
use Rattle.basics.specs.Answers.{is_done, Answer}
use Rattle.basics.specs.declared.Refusal.TheVariants.{WriteError}
use Rattle.basics.proofs.ChoiceLaws.{by_test}
use Rattle.codec.specs.declared.Raw.{Raw}
use Rattle.codec.specs.Slots.{slot_of}
use Rattle.flash.specs.Image.{slot_at, sectors_in}
use Rattle.flash.specs.Run.{Flash, program, erase}
use Rattle.flash.proofs.ImageView.{Fits}
use Rattle.flash.proofs.RunLaws.{program-fits, program-beside, program-apart, erase-fits, erase-apart}
use Rattle.records.specs.declared.State.{State}
use Rattle.records.specs.declared.State.TheVariants.{Active, Unformatted, Failed}
use Rattle.sectors.specs.Sectors.{write_sector}
use Rattle.sectors.specs.Commits.{Written, sector_after, commit_from, commit_after, commit_first}
use Rattle.sectors.specs.Appends.{SlotTries, tries_from, append_of}
use Rattle.flash.specs.declared.Plan.{Plan}
use Rattle.flash.proofs.ImageSectors.{sectors-whole}
use Rattle.records.specs.declared.Log.{Log}
use Rattle.records.specs.Table.{limit, joined, has_room}
use Rattle.records.specs.Logs.{log_of, records_of}
use Rattle.records.proofs.LogsPlaces.{places-take}
use Rattle.records.specs.Fitting.{log_fits, seq_max}
use Rattle.records.proofs.FittingLaws.{fits_clauses, fits-active, fits-unformatted}
use Rattle.decisions.specs.Outcomes.{Outcome, flash_of}
use Rattle.decisions.specs.Performing.{written_outcome}
use Rattle.demands.specs.Seen.{seen_by, seen, table_in}
use Rattle.demands.specs.Calls.{Call, put, put-value, put-anchor, format, spend, set-tries, advance_lamport}
use Rattle.demands.specs.Calls.{outcome_of, AnchorNoEffect, NoEffect}
use Rattle.demands.specs.Leaves.{Spares, Leaves, FailureLeaves}
use Rattle.demands.proofs.Tables.{join_few}
use Rattle.demands.proofs.CallsCourses.{Course, refusal, given, appends, formats, anchors, call_course}
use Rattle.demands.proofs.Endings.{Fails}
use Rattle.demands.proofs.CallsTracing.{append_trace}

-- ---- bytes
-- an image of n sectors stays one, and of sector a only slots from lo up to below hi change
pub record Keeps (n a lo hi : ℕ) (f g : Flash) : Type 0 where
  pub fits : Fits n f.image → Fits n g.image
  pub same : Fits n f.image → (i : ℕ) → i < 256 → (i < lo) ⊎ (hi ≤ i) → slot_at g.image a i ≡ slot_at f.image a i

module _ (n a lo hi : ℕ) where
  keeps_none : (f : Flash) → Keeps n a lo hi f f
  keeps_none f = record { fits = λ z. z; same = λ z i u o. refl }

  keeps_on : (f g h : Flash) → Keeps n a lo hi f g → Keeps n a lo hi g h → Keeps n a lo hi f h
  keeps_on f g h x y = record { fits = λ z. y.fits (x.fits z); same = λ z i u o. y.same (x.fits z) i u o ∙ x.same z i u o }

  -- a slot of another sector, or one of those that may change
  abbrev Slot : ℕ → ℕ → Type 0
  Slot s k = (s < n) × (k < 256) × ((s ≡ a → ⊥) ⊎ ((s ≡ a) × (lo ≤ k) × (k < hi)))

  abbrev Sector : ℕ → Type 0
  Sector s = (s < n) × (s ≡ a → ⊥)

  program_keeps : (s k : ℕ) (new : List ℕ) (f : Flash) → Slot s k → Keeps n a lo hi f (program s k new f).flash
  program_keeps s k new f m = record {
    fits = λ z. program-fits s k new f n z m.0 m.1;
    same = λ z i u o. go z i u o m.2;
  }
    where
      go : Fits n f.image → (i : ℕ) → i < 256 → (i < lo) ⊎ (hi ≤ i) → (s ≡ a → ⊥) ⊎ ((s ≡ a) × (lo ≤ k) × (k < hi))
          → slot_at (program s k new f).flash.image a i ≡ slot_at f.image a i
      go z i u o (inl apart) = program-apart s k new f n z m.0 m.1 a i (λ e. apart (sym e)) u
      go z i u o (inr here) =
          ap (λ (x : ℕ). slot_at (program s k new f).flash.image x i) (sym here.0)
          ∙ program-beside s k new f n z m.0 m.1 i (other o)
          ∙ ap (λ (x : ℕ). slot_at f.image x i) here.0
        where
          other : (i < lo) ⊎ (hi ≤ i) → i ≡ k → ⊥
          other (inl l) e = omega (arith, here.1)
          other (inr l) e = omega (arith, here.2)

  erase_keeps : (s : ℕ) (f : Flash) → Sector s → Keeps n a lo hi f (erase s f).flash
  erase_keeps s f m = record {
    fits = λ z. erase-fits s f n z m.0;
    same = λ z i u o. erase-apart s f n z m.0 a i (λ e. m.1 (sym e)) u;
  }

-- of the active sector an append changes the three slots from head on at most
pub append_keeps : (n s seq head next : ℕ) (r : Raw) (t : List Raw) (f : Flash) → s < n → head ≤ 256 → length t < 256
    → Keeps n s head (head + 3) f (append_of n s seq head next r t f).flash
append_keeps n s seq head next r t f within high few =
    append_trace (Keeps n s head (head + 3)) (keeps_none n s head (head + 3)) (keeps_on n s head (head + 3)) (Slot n s head (head + 3))
    (Sector n s head (head + 3)) (program_keeps n s head (head + 3)) (erase_keeps n s head (head + 3))
    n s seq head next r t f within high
    (λ i l u z. (within, z, inr (refl, l, u)))
    (λ x u z. (u, z))
    (λ x i u z l. (u, omega arith, inl z))

-- ---- states
-- a commit that failed leaves the state
pub commit-state : (m n a s : ℕ) (t : List Raw) (last : Answer) (state : State) (next : ℕ) (f : Flash) → Fails last
    → Fails (commit_from m n a s t last state next f).answer → (commit_from m n a s t last state next f).state ≡ state
unfolding commit_from
commit-state zero n a s t last state next f h = λ e. refl
commit-state (suc m) n a s t last state next f h =
    by_test P (eqb s a) _ _ (λ _. commit-state m n a (sector_after n s) t last state next f h)
    (λ _. by_test P (eqb next seq_max) _ _ (λ _ e. refl)
    (λ _. by_test P (is_done (write_sector s next t f).answer) _ _ (λ _ e. absurd (false≢true (sym e)))
    (λ d. commit-state m n a (sector_after n s) t (write_sector s next t f).answer state (next + 1) (write_sector s next t f).flash d)))
  where
    P : Written → Type 0
    P w = Fails w.answer → w.state ≡ state

-- tries that failed end at the slot behind the last one tried, or at the end of the sector
tries-head : (m s head : ℕ) (bytes : List ℕ) (last : Answer) (f : Flash)
    → ((tries_from m s head bytes last f).full ≡ true → (tries_from m s head bytes last f).head ≡ 256)
    × ((tries_from m s head bytes last f).full ≡ false → Fails (tries_from m s head bytes last f).answer
    → (tries_from m s head bytes last f).head ≡ head + m)
unfolding tries_from
tries-head zero s head bytes last f = ((λ e. absurd (false≢true e)), (λ e d. omega arith))
tries-head (suc m) s head bytes last f =
    by_test P (eqb head 256) _ _ (λ e. ((λ _. eqb-true head 256 e), (λ e d. absurd (false≢true (sym e)))))
    (λ _. by_test P (is_done (program s head bytes f).answer) _ _ (λ _. ((λ e. absurd (false≢true e)), (λ e d. absurd (false≢true (sym d)))))
    (λ _.
    let ih = tries-head m s (head + 1) bytes (program s head bytes f).answer (program s head bytes f).flash in
    (ih.0, λ e d. omega (arith, ih.1 e d))))
  where
    P : SlotTries → Type 0
    P o = (o.full ≡ true → o.head ≡ 256) × (o.full ≡ false → Fails o.answer → o.head ≡ head + suc m)

-- an append that failed leaves the sector and its number; head stands behind the slots tried
pub record HeadMoved (s seq head : ℕ) (state : State) : Type 0 where
  pub head-now : ℕ
  pub state-is : state ≡ Active s seq head-now
  pub past : (head-now ≡ 256) ⊎ (head-now ≡ head + 3)

pub append-state : (n s seq head next : ℕ) (r : Raw) (t : List Raw) (f : Flash) → Fails (append_of n s seq head next r t f).answer
    → HeadMoved s seq head (append_of n s seq head next r t f).state
unfolding append_of
append-state n s seq head next r t f = go (tries_from 3 s head (slot_of seq r) (Err WriteError) f) (tries-head 3 s head (slot_of seq r) (Err WriteError) f)
  where
    go : (o : SlotTries) → (o.full ≡ true → o.head ≡ 256) × (o.full ≡ false → Fails o.answer → o.head ≡ head + 3)
        → Fails
        (pick o.full (commit_after n s t (Active s seq o.head) next o.flash)
        (record { answer = o.answer; state = Active s seq o.head; next = next; flash = o.flash })).answer
        → HeadMoved s seq head
        (pick o.full (commit_after n s t (Active s seq o.head) next o.flash)
        (record { answer = o.answer; state = Active s seq o.head; next = next; flash = o.flash })).state
    go o h =
        by_test (λ (w : Written). Fails w.answer → HeadMoved s seq head w.state) o.full _ _
        (λ e d.
        record {
          head-now = o.head;
          state-is = commit-state n n s (sector_after n s) t (Err WriteError) (Active s seq o.head) next o.flash refl d;
          past = inl (h.0 e);
        })
        (λ e d. record { head-now = o.head; state-is = refl; past = inr (h.1 e d) })

-- ---- calls
-- a call that had no effect may leave what was seen before
no_effect : (c : Call) (log : Log) → NoEffect c log (seen log)
no_effect (put credential new) log = refl
no_effect (put-value id new) log = refl
no_effect (put-anchor new) log = go log.state
  where
    go : (z : State) → AnchorNoEffect z new log (seen log)
    go Unformatted = inl refl
    go Failed = refl
    go (Active sector seq head) = refl
no_effect (format seeds count) log = refl
no_effect (spend credential current) log = refl
no_effect (set-tries credential tries) log = refl
no_effect (advance_lamport latest) log = refl

module _ (image : List ℕ) (log : Log) (plan : Plan) where
  abbrev n : ℕ
  n = sectors_in (length image)

  abbrev f : Flash
  f = flash_of image plan

  abbrev t : List Raw
  t = records_of log

  unlike : (x q h : ℕ) → log.state ≡ Unformatted → log.state ≡ Active x q h → ⊥
  unlike x q h a b = let never : ◌≡◌ {A = ℕ} 0 1 = cc in omega arith

  -- two names of one Active state
  active-same : (s seq head x q h : ℕ) → log.state ≡ Active s seq head → log.state ≡ Active x q h → (s ≡ x) × (seq ≡ q) × (head ≡ h)
  active-same s seq head x q h a b = (cc, cc, cc)

  -- a log that failed to change holds what it held
  failed-table : (w : Written) (value : ℕ) (new old : List Raw) → Fails w.answer → records_of (written_outcome w value new old).log ≡ old
  failed-table w value new old e = ap (λ (b : Bool). records_of (log_of w.state w.next (pick b new old))) e ∙ places-take old

  append_spares : log_fits n log ≡ true → (s seq head : ℕ) → log.state ≡ Active s seq head → (r : Raw) (value : ℕ) → has_room limit r t ≡ true
      → Fails (append_of n s seq head log.next_seq r (joined r t) f).answer
      → Spares s seq head image (written_outcome (append_of n s seq head log.next_seq r (joined r t) f) value (joined r t) t)
  append_spares fits s seq head e r value room failed =
      let placed = fits-active n log fits s seq head e in
      let tried = append-state n s seq head log.next_seq r (joined r t) f failed in
      let held : length t ≤ limit = simp length-take (omega (arith, (fits_clauses n log fits).few)) in
      let few = join_few r t room held in
      let kept = append_keeps n s seq head log.next_seq r (joined r t) f placed.within placed.high (omega arith) in
      let size = sectors-whole (length image) (omega (arith, placed.within)) in
      record {
        head-now = tried.head-now;
        state-is = tried.state-is;
        bytes = λ i u o. kept.same size i u (outside tried.head-now i u tried.past o);
      }
    where
      outside : (now i : ℕ) → i < 256 → (now ≡ 256) ⊎ (now ≡ head + 3) → (i < head) ⊎ (now ≤ i) → (i < head) ⊎ (head + 3 ≤ i)
      outside now i u p (inl l) = inl l
      outside now i u (inl p) (inr l) = absurd (omega arith)
      outside now i u (inr p) (inr l) = inr (omega arith)

  -- the same is seen: state, sector and sequence number, and the table
  seen_same : (o : Outcome) → (z : State) → log.state ≡ z → o.log.state ≡ z → records_of o.log ≡ t → seen o.log ≡ seen log
  seen_same o z e k r = ap₂ seen_by k r ∙ ap (λ (x : State). seen_by x t) (sym e)

  seen_moved : (o : Outcome) (s seq head head-now : ℕ) → log.state ≡ Active s seq head → o.log.state ≡ Active s seq head-now
      → records_of o.log ≡ t → seen o.log ≡ seen log
  seen_moved o s seq head head-now e k r = ap₂ seen_by k r ∙ ap (λ (x : State). seen_by x t) (sym e)

  course_leaves : (c : Call) (o : Outcome) → Course image log plan (NoEffect c log) o → Fails o.answer → Leaves c image log o
  course_leaves c o (refusal a k) e = record {
    table = refl;
    left = no_effect c log;
    sector = λ s seq head z. record { head-now = head; state-is = z; bytes = λ i u v. refl };
  }
  course_leaves c o (given value) e = absurd (false≢true (sym e))
  course_leaves c o (appends fits s seq head z r value room) e =
      let same = failed-table (append_of n s seq head log.next_seq r (joined r t) f) value (joined r t) t e in
      let spares = append_spares fits s seq head z r value room e in
      record {
        table = same;
        left = subst (NoEffect c log) (sym (seen_moved o s seq head spares.head-now z spares.state-is same)) (no_effect c log);
        sector = λ x q h y.
            let alike = active-same s seq head x q h z y in
            subst (λ (b : ℕ). Spares b q h image o) alike.0
            (subst (λ (b : ℕ). Spares s b h image o) alike.1 (subst (λ (b : ℕ). Spares s seq b image o) alike.2 spares));
      }
  course_leaves c o (formats fits some z new few) e =
      let same = failed-table (commit_first n new Unformatted log.next_seq f) 0 new [] e ∙ sym (fits-unformatted n log fits z) in
      let kept = commit-state n n n 0 new (Err WriteError) Unformatted log.next_seq f refl e in
      record {
        table = same;
        left = subst (NoEffect c log) (sym (seen_same o Unformatted z kept same)) (no_effect c log);
        sector = λ x q h y. absurd (unlike x q h z y);
      }
  course_leaves c o (anchors may fits some z d s seq within k r value) e =
      let none = failed-table (append_of n s seq 1 _ r (joined r []) _) value (joined r []) [] e in
      let tried = append-state n s seq 1 _ r (joined r []) _ e in
      record {
        table = none ∙ sym (fits-unformatted n log fits z);
        left = may (seen o.log) (ap₂ (λ (x : State) (u : List Raw). table_in (seen_by x u)) tried.state-is none);
        sector = λ x q h y. absurd (unlike x q h z y);
      }

pub failure_leaves : FailureLeaves
failure_leaves c image log plan = course_leaves image log plan c (outcome_of c image log plan) (call_course image log plan c)
