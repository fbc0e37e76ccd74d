-- What a write comes to on a flash that refuses nothing: it is done, and costs what the paper says; or on no flash does it do anything.
use Rattle.std.specs.Prelude.{Err}
use Rattle.basics.specs.Answers.{all_done, is_done, Answer}
use mathlib.Core.Path.{◌≡◌, refl, sym, ap, subst, ◌∙◌}
use mathlib.Core.Bool.{Bool, true, false}
use mathlib.Core.List.{List, []}
use mathlib.Core.Logic.{◌⊎◌, inl, inr}
use Prim.Native.Nat.{ℕ, zero, suc, ◌+◌, ◌-◌, ◌*◌, ◌<◌}
use native.Mathlib.Omega.{arith}
use lib.Dec.{eqb}
use lib.ListN.{length}
use borrow.Author.Tests.{eq-eqb, eqb-true, eqb-false}
use Rattle.basics.specs.declared.Refusal.TheVariants.{WriteError}
use Rattle.basics.proofs.ChoiceLaws.{by_test}
use Rattle.codec.specs.declared.Raw.{Raw}
use Rattle.codec.specs.Slots.{slot_of}
use Rattle.flash.specs.Run.{Flash, Stepped, program}
use Rattle.records.specs.declared.State.{State}
use Rattle.records.specs.declared.State.TheVariants.{Unformatted, Active}
use Rattle.records.specs.Table.{joined}
use Rattle.records.specs.Fitting.{seq_max}
use Rattle.sectors.specs.Sectors.{write_sector}
use Rattle.sectors.specs.Commits.{Written, sector_after, commit_from, commit_after, commit_first}
use Rattle.sectors.specs.Appends.{append_of}
use Rattle.sectors.proofs.SectorsTurns.{after-within, append-full, append_tried, tries-full, tries-done, commit-done}
use Rattle.demands.specs.Healthy.{Healthy}
use Rattle.demands.specs.Seen.{seen_by, holding, table_in}
use Rattle.demands.proofs.Torn.{slot-sixteen, slot-bytes}
use Rattle.demands.proofs.Tables.{Proper, join_proper, Writable}
use Rattle.demands.proofs.Invariant.{Agrees}
use Rattle.demands.proofs.Endings.{Fails, Used, Ran, program_ran}
use Rattle.demands.proofs.SafeSectors.{Sectored, sector_sectored}
use Rattle.demands.proofs.SafeCommits.{Avoids, found_below, agrees-size}
use Rattle.demands.proofs.SafeAppends.{Here, fits}

-- done on a flash that stays healthy, with this state and next_seq, for so many bytes
pub record Reached (f : Flash) (w : Written) (state : State) (next p e : ℕ) : Type 0 where
  pub answer : w.answer ≡ all_done
  pub state-is : w.state ≡ state
  pub next-is : w.next ≡ next
  pub healthy : Healthy w.flash
  pub on : w.flash.cut ≡ false
  pub used : Used p e f w.flash

-- a refusal, and nothing else
pub record Idle (f : Flash) (w : Written) (state : State) (next : ℕ) : Type 0 where
  pub fails : Fails w.answer
  pub state-is : w.state ≡ state
  pub next-is : w.next ≡ next
  pub flash-is : w.flash ≡ f

-- ---- a commit
module _ (n a : ℕ) (t : List Raw) (proper : Proper t) (old : List Raw) (state : State) (v : Avoids state n a) where
  pub commit-reached : (m s : ℕ) (last : Answer) (next : ℕ) (f : Flash) → s < n → (s ≡ a → ⊥) → (next ≡ seq_max → ⊥) → f.cut ≡ false
      → Agrees n f.image state next old → Healthy f
      → Reached f (commit_from (suc m) n a s t last state next f) (Active s next (length t + 1)) (next + 1) (16 * (length t + 1)) 4096
  commit-reached m s last next f within apart most on g h =
      let lt : next < seq_max = omega (arith, g.most) in
      go
      (sector_sectored n a s next within apart lt t proper f (agrees-size n a f.image next old state v g) g.bytes
      (found_below n a f.image next old state v most g.found) on)
    where
      o : Stepped
      o = write_sector s next t f

      go : Sectored n a s next t f o
          → Reached f (commit_from (suc m) n a s t last state next f) (Active s next (length t + 1)) (next + 1) (16 * (length t + 1)) 4096
      go (Sectored.failed i e c k) = absurd (i h)
      go (Sectored.stopped i e c k) = absurd (i h)
      go (Sectored.done i e c k u) =
          subst (λ (w : Written). Reached f w (Active s next (length t + 1)) (next + 1) (16 * (length t + 1)) 4096)
          (sym (commit-done (suc m) n a s t last state next f (omega arith) apart most e))
          (record { answer = refl; state-is = refl; next-is = refl; healthy = i h; on = c; used = u })

-- every sequence number is used up
pub commit-used-idle : (m n a s : ℕ) (t : List Raw) (last : Answer) (state : State) (next : ℕ) (f : Flash) → Fails last → next ≡ seq_max
    → Idle f (commit_from m n a s t last state next f) state next
unfolding commit_from
commit-used-idle zero n a s t last state next f h e = record { fails = h; state-is = refl; next-is = refl; flash-is = refl }
commit-used-idle (suc m) n a s t last state next f h e =
    by_test (λ (w : Written). Idle f w state next) (eqb s a) _ _ (λ _. commit-used-idle m n a (sector_after n s) t last state next f h e)
    (λ _. rw (eq-eqb next seq_max e) (record { fails = refl; state-is = refl; next-is = refl; flash-is = refl }))

-- "or 6 if none was tried (n = 1)"
commit_alone_idle : (t : List Raw) (state : State) (next : ℕ) (f : Flash) → Idle f (commit_after 1 0 t state next f) state next
unfolding commit_from
commit_alone_idle t state next f = record { fails = refl; state-is = refl; next-is = refl; flash-is = refl }

after-apart : (n s : ℕ) → 1 < n → sector_after n s ≡ s → ⊥
after-apart n s h = by_test (λ (x : ℕ). x ≡ s → ⊥) (eqb (s + 1) n) 0 (s + 1) (λ e z. omega (arith, eqb-true (s + 1) n e)) (λ e z. omega arith)

-- ---- an append
module _ (n s seq : ℕ) (r : Raw) (old : List Raw) (w : Writable r old) (next : ℕ) where
  abbrev slot : List ℕ
  slot = slot_of seq r

  -- "A healthy append reports 16 and 0"
  pub append-reached : (head : ℕ) (f : Flash) → head < 256 → f.cut ≡ false → Here n s seq r old w next f.image head old → Healthy f
      → Reached f (append_of n s seq head next r (joined r old) f) (Active s seq (head + 1)) next 16 0
  append-reached head f room on g h =
      let fit = fits n s seq r old w next f.image head g room in
      go
      (program_ran s head slot f on (g.found.erased head (omega arith) room) (slot-sixteen seq fit r w.whole)
      (slot-bytes seq fit r w.whole))
    where
      o : Stepped
      o = program s head slot f

      go : Ran s head slot f o → Reached f (append_of n s seq head next r (joined r old) f) (Active s seq (head + 1)) next 16 0
      go (Ran.refused i e c is) = absurd (i h)
      go (Ran.stopped i e c k l is) = absurd (i h)
      go (Ran.done i e c is u) =
          subst (λ (x : Written). Reached f x (Active s seq (head + 1)) next 16 0)
          (sym (append_tried n s seq head next r (joined r old) f (record { full = false; answer = all_done; head = head + 1; flash = o.flash })
          (tries-done 3 s head slot (Err WriteError) f (omega arith) (λ z. omega arith) e) refl))
          (record { answer = refl; state-is = refl; next-is = refl; healthy = i h; on = c; used = u })

  -- a full sector is committed anew
  module _ (head : ℕ) (full : head ≡ 256) where
    append-commits : (f : Flash) → append_of n s seq head next r (joined r old) f ≡ commit_after n s (joined r old) (Active s seq head) next f
    append-commits f =
        append-full n s seq head next r (joined r old) f (record { full = true; answer = Err WriteError; head = head; flash = f })
        (tries-full 3 s head slot (Err WriteError) f (omega arith) full) refl

    -- it can't be, on any flash, where there is no other sector or no further sequence number
    abbrev pub Stuck : Type 0
    Stuck = (n ≡ 1) ⊎ (next ≡ seq_max)

    pub append-idle : (f : Flash) → s < n → Stuck → Idle f (append_of n s seq head next r (joined r old) f) (Active s seq head) next
    append-idle f within k = subst (λ (x : Written). Idle f x (Active s seq head) next) (sym (append-commits f)) (go k)
      where
        go : (n ≡ 1) ⊎ (next ≡ seq_max) → Idle f (commit_after n s (joined r old) (Active s seq head) next f) (Active s seq head) next
        go (inr e) = commit-used-idle n n s (sector_after n s) (joined r old) (Err WriteError) (Active s seq head) next f refl e
        go (inl e) =
            let only : s ≡ 0 = omega arith in
            subst (λ (m : ℕ). Idle f (commit_after m s (joined r old) (Active s seq head) next f) (Active s seq head) next) (sym e)
            (subst (λ (x : ℕ). Idle f (commit_after 1 x (joined r old) (Active s seq head) next f) (Active s seq head) next) (sym only)
            (commit_alone_idle (joined r old) (Active s seq head) next f))

    -- "a healthy commit of r records 16 × (r + 1) and 4,096"
    pub append_rotated : (f : Flash) → 1 < n → (next ≡ seq_max → ⊥) → f.cut ≡ false → Here n s seq r old w next f.image head old → Healthy f
        → Reached f (append_of n s seq head next r (joined r old) f) (Active (sector_after n s) next (length (joined r old) + 1)) (next + 1)
        (16 * (length (joined r old) + 1)) 4096
    append_rotated f others most on g h =
        let within = g.found.placed.within in
        let proper = join_proper r old w.whole w.tagged w.room g.proper in
        let left : n ≡ suc (n - 1) = omega arith in
        subst
        (λ (x : Written).
        Reached f x (Active (sector_after n s) next (length (joined r old) + 1)) (next + 1) (16 * (length (joined r old) + 1)) 4096)
        (sym (append-commits f ∙ ap (λ (m : ℕ). commit_from m n s (sector_after n s) (joined r old) (Err WriteError) (Active s seq head) next f) left))
        (commit-reached n s (joined r old) proper old (Active s seq head) refl (n - 1) (sector_after n s) (Err WriteError) next f
        (after-within n s within) (after-apart n s others) most on g h)

-- ---- the table after a write
-- on a healthy flash the new table is reached; or on no flash is anything done
abbrev pub Reaches : List ℕ → State → ℕ → List Raw → (Flash → Written) → Type 0
Reaches image state next new run =
    ((f : Flash) → f.image ≡ image → f.cut ≡ false → Healthy f
    → (is_done (run f).answer ≡ true) × (table_in (seen_by (run f).state new) ≡ holding new))
    ⊎ ((f : Flash) → Idle f (run f) state next)

reached-table : (f : Flash) (w : Written) (s seq head next p e : ℕ) (new : List Raw) → Reached f w (Active s seq head) next p e
    → (is_done w.answer ≡ true) × (table_in (seen_by w.state new) ≡ holding new)
reached-table f w s seq head next p e new x = (ap is_done x.answer, ap (λ (z : State). table_in (seen_by z new)) x.state-is)

module _ (n s seq : ℕ) (r : Raw) (old : List Raw) (w : Writable r old) (next : ℕ) (image : List ℕ) (head : ℕ)
    (g : Here n s seq r old w next image head old) where
  abbrev run : Flash → Written
  run f = append_of n s seq head next r (joined r old) f

  pub append_reaches : Reaches image (Active s seq head) next (joined r old) run
  append_reaches = go (eqb head 256) refl (eqb next seq_max) refl (eqb n 1) refl
    where
      on : (f : Flash) → f.image ≡ image → Here n s seq r old w next f.image head old
      on f i = subst (λ (l : List ℕ). Here n s seq r old w next l head old) (sym i) g

      go : (b : Bool) → eqb head 256 ≡ b → (c : Bool) → eqb next seq_max ≡ c → (d : Bool) → eqb n 1 ≡ d
          → Reaches image (Active s seq head) next (joined r old) run
      go false e c k d l =
          let unlike = eqb-false head 256 e in
          inl
          (λ f i o h.
          reached-table f (run f) s seq (head + 1) next 16 0 (joined r old)
          (append-reached n s seq r old w next head f (omega (arith, g.found.placed.high)) o (on f i) h))
      go true e true k d l =
          inr (λ f. append-idle n s seq r old w next head (eqb-true head 256 e) f g.found.placed.within (inr (eqb-true next seq_max k)))
      go true e false k true l =
          inr (λ f. append-idle n s seq r old w next head (eqb-true head 256 e) f g.found.placed.within (inl (eqb-true n 1 l)))
      go true e false k false l =
          let several = eqb-false n 1 l in
          inl
          (λ f i o h.
          reached-table f (run f) (sector_after n s) next (length (joined r old) + 1) (next + 1) (16 * (length (joined r old) + 1)) 4096
          (joined r old)
          (append_rotated n s seq r old w next head (eqb-true head 256 e) f (omega (arith, g.found.placed.within))
          (eqb-false next seq_max k) o (on f i) h))

module _ (n next : ℕ) (t : List Raw) (proper : Proper t) (image : List ℕ) (g : Agrees n image Unformatted next []) where
  pub first-reached : (f : Flash) → f.image ≡ image → (next ≡ seq_max → ⊥) → f.cut ≡ false → Healthy f
      → Reached f (commit_first n t Unformatted next f) (Active 0 next (length t + 1)) (next + 1) (16 * (length t + 1)) 4096
  first-reached f i most on h =
      let some = g.found.1 in
      let left : n ≡ suc (n - 1) = omega arith in
      subst (λ (x : Written). Reached f x (Active 0 next (length t + 1)) (next + 1) (16 * (length t + 1)) 4096)
      (sym (ap (λ (m : ℕ). commit_from m n n 0 t (Err WriteError) Unformatted next f) left))
      (commit-reached n n t proper [] Unformatted refl (n - 1) 0 (Err WriteError) next f some (λ z. omega arith) most on
      (subst (λ (l : List ℕ). Agrees n l Unformatted next []) (sym i) g) h)

  pub first_reaches : Reaches image Unformatted next t (commit_first n t Unformatted next)
  first_reaches = go (eqb next seq_max) refl
    where
      go : (b : Bool) → eqb next seq_max ≡ b → Reaches image Unformatted next t (commit_first n t Unformatted next)
      go true e = inr (λ f. commit-used-idle n n n 0 t (Err WriteError) Unformatted next f refl (eqb-true next seq_max e))
      go false e =
          inl
          (λ f i on h.
          reached-table f (commit_first n t Unformatted next f) 0 next (length t + 1) (next + 1) (16 * (length t + 1)) 4096 t
          (first-reached f i (eqb-false next seq_max e) on h))
