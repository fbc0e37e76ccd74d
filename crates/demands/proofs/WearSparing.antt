-- "with unlimited power the figures are those of a plan with units to spare": a write that is not cut comes to the same on the plan without a limit.
use Rattle.std.specs.Prelude.{Err}
use Rattle.basics.specs.Answers.{all_done, is_done, Answer}
use mathlib.Core.Path.{◌≡◌, refl, sym, ap, ◌∙◌}
use mathlib.Core.Bool.{Bool, true, false, false≢true}
use mathlib.Core.List.{List, [], ◌∷◌}
use Prim.Native.Nat.{ℕ, zero, suc, ◌+◌, ◌<◌, ◌≤◌}
use native.Mathlib.Omega.{arith}
use lib.Dec.{eqb}
use lib.ListN.{length}
use borrow.Author.Tests.{eqb-false}
use Rattle.records.specs.Fitting.{seq_max}
use Rattle.basics.specs.Choice.{pick}
use Rattle.basics.specs.declared.Refusal.TheVariants.{WriteError}
use Rattle.basics.proofs.ChoiceLaws.{by_test}
use Rattle.codec.specs.declared.Raw.{Raw}
use Rattle.codec.specs.Slots.{slot_of, header_slot}
use Rattle.flash.specs.Run.{Flash, Stepped, program, erase}
use Rattle.flash.proofs.PowerLaws.{Short}
use Rattle.flash.proofs.RunLaws.{Programmed, program-refused, program-stopped, program-whole, program-outcome, Erased, erase-refused}
use Rattle.flash.proofs.RunLaws.{erase-stopped, erase-whole, erase-outcome}
use Rattle.records.specs.declared.State.{State}
use Rattle.records.specs.declared.State.TheVariants.{Active}
use Rattle.sectors.specs.Sectors.{on_done, write_records, write_sector}
use Rattle.sectors.specs.Commits.{Written, sector_after, commit_from, commit_after}
use Rattle.sectors.specs.Appends.{SlotTries, tries_from, append_of}
use Rattle.sectors.proofs.SectorsTurns.{after-within}
use Rattle.demands.specs.Healthy.{unlimited}
use Rattle.demands.proofs.CallsTracing.{records_trace, sector_trace, commit_trace, tries_trace, append_trace}

-- the same flash, without a limit
abbrev pub freed : Flash → Flash
freed f = record { image = f.image; plan = unlimited f.plan; programmed = f.programmed; erased = f.erased; cut = f.cut }

abbrev freed_step : Stepped → Stepped
freed_step o = record { answer = o.answer; flash = freed o.flash }

abbrev pub freed_wrote : Written → Written
freed_wrote w = record { answer = w.answer; state = w.state; next = w.next; flash = freed w.flash }

abbrev freed_tried : SlotTries → SlotTries
freed_tried o = record { full = o.full; answer = o.answer; head = o.head; flash = freed o.flash }

-- ---- a program and an erase
unshort : (f : Flash) (n : ℕ) → Short (unlimited f.plan) n → ⊥
unshort f n h = false≢true h.0

program-freed : (s k : ℕ) (new : List ℕ) (f : Flash) → (program s k new f).flash.cut ≡ false
    → program s k new (freed f) ≡ freed_step (program s k new f)
program-freed s k new f = go (program-outcome s k new f) (program-outcome s k new (freed f))
  where
    go : {o p : Stepped} → Programmed s k new f o → Programmed s k new (freed f) p → o.flash.cut ≡ false → p ≡ freed_step o
    go (program-stopped e h) q c = absurd (false≢true (sym c))
    go (program-refused h) (program-refused i) c = refl
    go (program-refused h) (program-stopped e i) c = absurd (unshort f 16 i)
    go (program-refused h) (program-whole e i) c = absurd (omega arith)
    go (program-whole e h) (program-refused i) c = absurd (omega arith)
    go (program-whole e h) (program-stopped d i) c = absurd (unshort f 16 i)
    go (program-whole e h) (program-whole d i) c = refl

erase-freed : (s : ℕ) (f : Flash) → (erase s f).flash.cut ≡ false → erase s (freed f) ≡ freed_step (erase s f)
erase-freed s f = go (erase-outcome s f) (erase-outcome s (freed f))
  where
    go : {o p : Stepped} → Erased s f o → Erased s (freed f) p → o.flash.cut ≡ false → p ≡ freed_step o
    go (erase-stopped e h) q c = absurd (false≢true (sym c))
    go (erase-refused h) (erase-refused i) c = refl
    go (erase-refused h) (erase-stopped e i) c = absurd (unshort f 4096 i)
    go (erase-refused h) (erase-whole e i) c = absurd (false≢true (sym e ∙ h))
    go (erase-whole e h) (erase-refused i) c = absurd (false≢true (sym e ∙ i))
    go (erase-whole e h) (erase-stopped d i) c = absurd (unshort f 4096 i)
    go (erase-whole e h) (erase-whole d i) c = refl

-- ---- a cut stays
abbrev pub Uncut : Flash → Flash → Type 0
Uncut f g = g.cut ≡ false → f.cut ≡ false

uncut-none : (f : Flash) → Uncut f f
uncut-none f c = c

pub uncut-on : (f g h : Flash) → Uncut f g → Uncut g h → Uncut f h
uncut-on f g h a b c = a (b c)

program-uncut : (s k : ℕ) (new : List ℕ) (f : Flash) → Uncut f (program s k new f).flash
program-uncut s k new f = go (program-outcome s k new f)
  where
    go : {o : Stepped} → Programmed s k new f o → Uncut f o.flash
    go (program-refused h) c = c
    go (program-stopped e h) c = absurd (false≢true (sym c))
    go (program-whole e h) c = c

erase-uncut : (s : ℕ) (f : Flash) → Uncut f (erase s f).flash
erase-uncut s f = go (erase-outcome s f)
  where
    go : {o : Stepped} → Erased s f o → Uncut f o.flash
    go (erase-refused h) c = c
    go (erase-stopped e h) c = absurd (false≢true (sym c))
    go (erase-whole e h) c = c

abbrev Any : ℕ → Type 0
Any s = Unit {0}

-- ---- loops
-- a step, and what follows it by its answer: where the whole is not cut, it comes to the same on both flashes
module _ {X : Type 0} (free : X → X) (left : X → Flash) (o p : Stepped) (same : o.flash.cut ≡ false → p ≡ freed_step o)
    (yes-so not_so : Stepped → X) where
  branch : Uncut o.flash (left (yes-so o)) → Uncut o.flash (left (not_so o))
      → ((left (yes-so o)).cut ≡ false → yes-so (freed_step o) ≡ free (yes-so o))
      → ((left (not_so o)).cut ≡ false → not_so (freed_step o) ≡ free (not_so o))
      → (left (pick (is_done o.answer) (yes-so o) (not_so o))).cut ≡ false
      → pick (is_done p.answer) (yes-so p) (not_so p) ≡ free (pick (is_done o.answer) (yes-so o) (not_so o))
  branch u v y z = go (is_done o.answer) refl
    where
      both : o.flash.cut ≡ false
          → pick (is_done p.answer) (yes-so p) (not_so p) ≡ pick (is_done o.answer) (yes-so (freed_step o)) (not_so (freed_step o))
      both c = ap (λ (q : Stepped). pick (is_done q.answer) (yes-so q) (not_so q)) (same c)

      go : (b : Bool) → is_done o.answer ≡ b → (left (pick b (yes-so o) (not_so o))).cut ≡ false
          → pick (is_done p.answer) (yes-so p) (not_so p) ≡ free (pick b (yes-so o) (not_so o))
      go true e c = both (u c) ∙ ap (λ (b : Bool). pick b (yes-so (freed_step o)) (not_so (freed_step o))) e ∙ y c
      go false e c = both (v c) ∙ ap (λ (b : Bool). pick b (yes-so (freed_step o)) (not_so (freed_step o))) e ∙ z c

-- a choice that does not depend on the flash
pub chosen : {X : Type 0} (free : X → X) (left : X → Flash) (b : Bool) (x x₁ y y₁ : X) → ((left x).cut ≡ false → x₁ ≡ free x)
    → ((left y).cut ≡ false → y₁ ≡ free y) → (left (pick b x y)).cut ≡ false → pick b x₁ y₁ ≡ free (pick b x y)
chosen free left true x x₁ y y₁ p q = p
chosen free left false x x₁ y y₁ p q = q

records_uncut : (s seq k : ℕ) (t : List Raw) (f : Flash) → Uncut f (write_records s seq k t f).flash
records_uncut s seq k t f =
    records_trace Uncut uncut-none uncut-on (λ s. Any) Any (λ s k new f _. program-uncut s k new f) (λ s f _. erase-uncut s f) s seq k t f
    (λ i l u. tt)

records_freed : (s seq k : ℕ) (t : List Raw) (f : Flash) → (write_records s seq k t f).flash.cut ≡ false
    → write_records s seq k t (freed f) ≡ freed_step (write_records s seq k t f)
unfolding write_records
records_freed s seq k [] f = λ c. refl
records_freed s seq k (r ∷ t) f =
    branch freed_step (λ (q : Stepped). q.flash) (program s k (slot_of seq r) f) (program s k (slot_of seq r) (freed f))
    (program-freed s k (slot_of seq r) f)
    (λ (q : Stepped). write_records s seq (suc k) t q.flash) (λ (q : Stepped). q)
    (records_uncut s seq (suc k) t (program s k (slot_of seq r) f).flash) (λ c. c)
    (records_freed s seq (suc k) t (program s k (slot_of seq r) f).flash) (λ _. refl)

done-freed : (o p : Stepped) (next : Flash → Stepped) → (o.flash.cut ≡ false → p ≡ freed_step o) → ((g : Flash) → Uncut g (next g).flash)
    → ((g : Flash) → (next g).flash.cut ≡ false → next (freed g) ≡ freed_step (next g))
    → (on_done o next).flash.cut ≡ false → on_done p next ≡ freed_step (on_done o next)
done-freed o p next same u y =
    branch freed_step (λ (q : Stepped). q.flash) o p same (λ (q : Stepped). next q.flash) (λ (q : Stepped). q) (u o.flash) (λ c. c)
    (y o.flash) (λ _. refl)

sector-uncut : (s seq : ℕ) (t : List Raw) (f : Flash) → Uncut f (write_sector s seq t f).flash
sector-uncut s seq t f =
    sector_trace Uncut uncut-none uncut-on (λ s. Any) Any (λ s k new f _. program-uncut s k new f) (λ s f _. erase-uncut s f) s seq t f tt
    (λ i l. tt)

sector-freed : (s seq : ℕ) (t : List Raw) (f : Flash) → (write_sector s seq t f).flash.cut ≡ false
    → write_sector s seq t (freed f) ≡ freed_step (write_sector s seq t f)
unfolding write_sector
sector-freed s seq t f = done-freed (erase s f) (erase s (freed f)) fill (erase-freed s f) fill-uncut fill-freed
  where
    fill : Flash → Stepped
    fill g = on_done (write_records s seq 1 t g) (λ (h : Flash). program s 0 (header_slot seq) h)

    fill-uncut : (g : Flash) → Uncut g (fill g).flash
    fill-uncut g =
        by_test (λ (q : Stepped). Uncut g q.flash) (is_done (write_records s seq 1 t g).answer)
        (program s 0 (header_slot seq) (write_records s seq 1 t g).flash) (write_records s seq 1 t g)
        (λ _.
        uncut-on g (write_records s seq 1 t g).flash (program s 0 (header_slot seq) (write_records s seq 1 t g).flash).flash
        (records_uncut s seq 1 t g) (program-uncut s 0 (header_slot seq) (write_records s seq 1 t g).flash))
        (λ _. records_uncut s seq 1 t g)

    fill-freed : (g : Flash) → (fill g).flash.cut ≡ false → fill (freed g) ≡ freed_step (fill g)
    fill-freed g =
        done-freed (write_records s seq 1 t g) (write_records s seq 1 t (freed g)) (λ (h : Flash). program s 0 (header_slot seq) h)
        (records_freed s seq 1 t g)
        (λ h. program-uncut s 0 (header_slot seq) h) (λ h. program-freed s 0 (header_slot seq) h)

-- ---- commits and appends
pub commit-uncut : (n a : ℕ) (t : List Raw) (m s : ℕ) (last : Answer) (state : State) (next : ℕ) (f : Flash) → s < n
    → Uncut f (commit_from m n a s t last state next f).flash
commit-uncut n a t =
    commit_trace Uncut uncut-none uncut-on (λ s. Any) Any (λ s k new f _. program-uncut s k new f) (λ s f _. erase-uncut s f) n a t
    (λ s u z. tt) (λ s i u z l. tt)

abbrev CommitFree : ℕ → ℕ → List Raw → ℕ → ℕ → Answer → State → ℕ → Flash → Type 0
CommitFree n a t m s last state next f =
    (commit_from m n a s t last state next f).flash.cut ≡ false
    → commit_from m n a s t last state next (freed f) ≡ freed_wrote (commit_from m n a s t last state next f)

pub commit-freed : (n a : ℕ) (t : List Raw) (m s : ℕ) (last : Answer) (state : State) (next : ℕ) (f : Flash) → s < n
    → CommitFree n a t m s last state next f
unfolding commit_from
commit-freed n a t zero s last state next f within = λ c. refl
commit-freed n a t (suc m) s last state next f within =
    chosen freed_wrote (λ (w : Written). w.flash) (eqb s a) (commit_from m n a (sector_after n s) t last state next f)
    (commit_from m n a (sector_after n s) t last state next (freed f)) (used f) (used (freed f))
    (commit-freed n a t m (sector_after n s) last state next f (after-within n s within))
    (chosen freed_wrote (λ (w : Written). w.flash) (eqb next seq_max) (held f) (held (freed f)) (written f) (written (freed f)) (λ _. refl)
    (branch freed_wrote (λ (w : Written). w.flash) (write_sector s next t f) (write_sector s next t (freed f)) (sector-freed s next t f)
    (λ (q : Stepped). record { answer = all_done; state = Active s next (length t + 1); next = next + 1; flash = q.flash })
    (λ (q : Stepped). commit_from m n a (sector_after n s) t q.answer state (next + 1) q.flash)
    (λ c. c)
    (commit-uncut n a t m (sector_after n s) (write_sector s next t f).answer state (next + 1) (write_sector s next t f).flash
    (after-within n s within))
    (λ _. refl)
    (commit-freed n a t m (sector_after n s) (write_sector s next t f).answer state (next + 1) (write_sector s next t f).flash
    (after-within n s within))))
  where
    held : Flash → Written
    held g = record { answer = Err WriteError; state = state; next = next; flash = g }

    written : Flash → Written
    written g =
        pick (is_done (write_sector s next t g).answer)
        (record { answer = all_done; state = Active s next (length t + 1); next = next + 1; flash = (write_sector s next t g).flash })
        (commit_from m n a (sector_after n s) t (write_sector s next t g).answer state (next + 1) (write_sector s next t g).flash)

    used : Flash → Written
    used g = pick (eqb next seq_max) (held g) (written g)

tries-uncut : (m s head : ℕ) (bytes : List ℕ) (last : Answer) (f : Flash) → head ≤ 256 → Uncut f (tries_from m s head bytes last f).flash
tries-uncut m s head bytes last f high =
    tries_trace Uncut uncut-none uncut-on (λ s. Any) Any (λ s k new f _. program-uncut s k new f) (λ s f _. erase-uncut s f) m s head bytes
    last f high (λ i l u z. tt)

tries-freed : (m s head : ℕ) (bytes : List ℕ) (last : Answer) (f : Flash) → head ≤ 256 → (tries_from m s head bytes last f).flash.cut ≡ false
    → tries_from m s head bytes last (freed f) ≡ freed_tried (tries_from m s head bytes last f)
unfolding tries_from
tries-freed zero s head bytes last f high = λ c. refl
tries-freed (suc m) s head bytes last f high =
    go (eqb head 256) refl
    (λ under. tries-freed m s (head + 1) bytes (program s head bytes f).answer (program s head bytes f).flash under)
  where
    o : Stepped
    o = program s head bytes f

    done : Flash → SlotTries
    done g = record { full = false; answer = all_done; head = head + 1; flash = g }

    go : (b : Bool) → eqb head 256 ≡ b
        → (head + 1 ≤ 256 → (tries_from m s (head + 1) bytes o.answer o.flash).flash.cut ≡ false
        → tries_from m s (head + 1) bytes o.answer (freed o.flash)
        ≡ freed_tried (tries_from m s (head + 1) bytes o.answer o.flash))
        → (pick b (record { full = true; answer = last; head = head; flash = f })
        (pick (is_done o.answer) (done o.flash) (tries_from m s (head + 1) bytes o.answer o.flash))).flash.cut
        ≡ false
        → pick b (record { full = true; answer = last; head = head; flash = freed f })
        (pick (is_done (program s head bytes (freed f)).answer) (done (program s head bytes (freed f)).flash)
        (tries_from m s (head + 1) bytes (program s head bytes (freed f)).answer (program s head bytes (freed f)).flash))
        ≡ freed_tried
        (pick b (record { full = true; answer = last; head = head; flash = f })
        (pick (is_done o.answer) (done o.flash) (tries_from m s (head + 1) bytes o.answer o.flash)))
    go true e ih = λ c. refl
    go false e ih =
        let unlike = eqb-false head 256 e in
        let under : head + 1 ≤ 256 = omega arith in
        branch freed_tried (λ (w : SlotTries). w.flash) o (program s head bytes (freed f)) (program-freed s head bytes f)
        (λ (q : Stepped). done q.flash) (λ (q : Stepped). tries_from m s (head + 1) bytes q.answer q.flash)
        (λ c. c) (tries-uncut m s (head + 1) bytes o.answer o.flash under) (λ _. refl) (ih under)

pub append-uncut : (n s seq head next : ℕ) (r : Raw) (t : List Raw) (f : Flash) → s < n → head ≤ 256
    → Uncut f (append_of n s seq head next r t f).flash
append-uncut n s seq head next r t f within high =
    append_trace Uncut uncut-none uncut-on (λ s. Any) Any (λ s k new f _. program-uncut s k new f) (λ s f _. erase-uncut s f) n s seq head
    next r t f within high (λ i l u z. tt) (λ x u z. tt) (λ x i u z l. tt)

pub append-freed : (n s seq head next : ℕ) (r : Raw) (t : List Raw) (f : Flash) → s < n → head ≤ 256
    → (append_of n s seq head next r t f).flash.cut ≡ false
    → append_of n s seq head next r t (freed f) ≡ freed_wrote (append_of n s seq head next r t f)
unfolding append_of
append-freed n s seq head next r t f within high =
    go (tries_from 3 s head (slot_of seq r) (Err WriteError) f) (tries_from 3 s head (slot_of seq r) (Err WriteError) (freed f))
    (tries-freed 3 s head (slot_of seq r) (Err WriteError) f high)
  where
    ends : SlotTries → Written
    ends o =
        pick o.full (commit_after n s t (Active s seq o.head) next o.flash)
        (record { answer = o.answer; state = Active s seq o.head; next = next; flash = o.flash })

    go : (o p : SlotTries) → (o.flash.cut ≡ false → p ≡ freed_tried o) → (ends o).flash.cut ≡ false → ends p ≡ freed_wrote (ends o)
    go o p same c =
        let before : o.flash.cut ≡ false =
        by_test (λ (w : Written). Uncut o.flash w.flash) o.full (commit_after n s t (Active s seq o.head) next o.flash)
        (record { answer = o.answer; state = Active s seq o.head; next = next; flash = o.flash })
        (λ _. commit-uncut n s t n (sector_after n s) (Err WriteError) (Active s seq o.head) next o.flash (after-within n s within)) (λ _ z. z) c in
        ap ends (same before)
        ∙ chosen freed_wrote (λ (w : Written). w.flash) o.full (commit_after n s t (Active s seq o.head) next o.flash)
        (commit_after n s t (Active s seq o.head) next (freed o.flash))
        (record { answer = o.answer; state = Active s seq o.head; next = next; flash = o.flash })
        (record { answer = o.answer; state = Active s seq o.head; next = next; flash = freed o.flash })
        (commit-freed n s t n (sector_after n s) (Err WriteError) (Active s seq o.head) next o.flash (after-within n s within)) (λ _. refl) c
