-- What writes cost: limited units fall by exactly the bytes programmed and erased, and no write costs more than the paper says.
use Rattle.std.specs.Prelude.{Err}
use mathlib.Core.Path.{◌≡◌, refl, sym, subst, ◌∙◌}
use mathlib.Core.Bool.{Bool, true, false, false≢true}
use mathlib.Core.List.{List}
use Prim.Native.Nat.{ℕ, zero, suc, ◌+◌, ◌-◌, ◌*◌, ◌≤◌, ◌<◌}
use native.Mathlib.Nat.{mul-le-mul}
use native.Mathlib.Omega.{arith}
use lib.Dec.{eqb, ltb}
use lib.ListN.{length}
use borrow.Author.Tests.{eq-eqb, eqb-true, eqb-false, ltb-true, ltb-false}
use Rattle.records.specs.Fitting.{seq_max}
use Rattle.basics.specs.Choice.{pick}
use Rattle.basics.specs.Answers.{is_done, Answer}
use Rattle.basics.specs.declared.Refusal.TheVariants.{WriteError}
use Rattle.basics.proofs.ChoiceLaws.{by_test}
use Rattle.codec.specs.declared.Raw.{Raw}
use Rattle.codec.specs.Slots.{slot_of}
use Rattle.flash.specs.Run.{Flash, Stepped, program, erase}
use Rattle.flash.proofs.RunLaws.{Paid, program_paid, erase_paid, CutIsDead, program-cut, erase-cut}
use Rattle.flash.proofs.RunLaws.{Programmed, program-refused, program-stopped, program-whole, program-outcome}
use Rattle.flash.proofs.RunLaws.{Erased, erase-refused, erase-stopped, erase-whole, erase-outcome}
use Rattle.records.specs.declared.State.{State}
use Rattle.records.specs.declared.State.TheVariants.{Active}
use Rattle.sectors.specs.Sectors.{write_sector}
use Rattle.sectors.specs.Commits.{Written, sector_after, commit_from, commit_after, commit_first}
use Rattle.sectors.specs.Appends.{SlotTries, tries_from, append_of}
use Rattle.sectors.proofs.SectorsCosts.{Within, within_on, sector-within, tries-within}
use Rattle.sectors.proofs.SectorsTurns.{after-within}
use Rattle.demands.proofs.CallsTracing.{commit_trace, append_trace}

-- ---- units
paid_none : (f : Flash) → Paid f f
paid_none f = record { limited = refl; units = λ _. refl; uncut = λ _. refl }

pub paid_on : (f g h : Flash) → Paid f g → Paid g h → Paid f h
paid_on f g h a b = record {
  limited = b.limited ∙ a.limited;
  units = λ l. b.units (a.limited ∙ l) ∙ a.units l;
  uncut = λ l. b.uncut (a.limited ∙ l) ∙ a.uncut l;
}

abbrev Any : ℕ → Type 0
Any s = Unit {0}

pub commit_paid : (n a : ℕ) (t : List Raw) (m s : ℕ) (last : Answer) (state : State) (next : ℕ) (f : Flash) → s < n
    → Paid f (commit_from m n a s t last state next f).flash
commit_paid n a t =
    commit_trace Paid paid_none paid_on (λ s. Any) Any (λ s k new f _. program_paid s k new f) (λ s f _. erase_paid s f) n a t (λ s u z. tt)
    (λ s i u z l. tt)

pub append_paid : (n s seq head next : ℕ) (r : Raw) (t : List Raw) (f : Flash) → s < n → head ≤ 256 → Paid f (append_of n s seq head next r t f).flash
append_paid n s seq head next r t f within high =
    append_trace Paid paid_none paid_on (λ s. Any) Any (λ s k new f _. program_paid s k new f) (λ s f _. erase_paid s f) n s seq head next r
    t f within high (λ i l u z. tt) (λ x u z. tt) (λ x i u z l. tt)

-- a flash that was cut is without power
abbrev Spent : Flash → Flash → Type 0
Spent f g = CutIsDead f → CutIsDead g

spent-none : (f : Flash) → Spent f f
spent-none f d = d

spent-on : (f g h : Flash) → Spent f g → Spent g h → Spent f h
spent-on f g h a b d = b (a d)

pub commit-spent : (n a : ℕ) (t : List Raw) (m s : ℕ) (last : Answer) (state : State) (next : ℕ) (f : Flash) → s < n
    → Spent f (commit_from m n a s t last state next f).flash
commit-spent n a t =
    commit_trace Spent spent-none spent-on (λ s. Any) Any (λ s k new f _. program-cut s k new f) (λ s f _. erase-cut s f) n a t
    (λ s u z. tt) (λ s i u z l. tt)

pub append-spent : (n s seq head next : ℕ) (r : Raw) (t : List Raw) (f : Flash) → s < n → head ≤ 256
    → Spent f (append_of n s seq head next r t f).flash
append-spent n s seq head next r t f within high =
    append_trace Spent spent-none spent-on (λ s. Any) Any (λ s k new f _. program-cut s k new f) (λ s f _. erase-cut s f) n s seq head next
    r t f within high (λ i l u z. tt) (λ x u z. tt) (λ x i u z l. tt)

-- ---- where nothing was cut, all that was begun was done: whole slots, and whole sectors
pub record Whole (f g : Flash) : Type 0 where
  pub earlier : g.cut ≡ false → f.cut ≡ false
  pub slots : g.cut ≡ false → (k : ℕ) × (g.programmed ≡ f.programmed + 16 * k)
  pub sectors : g.cut ≡ false → (k : ℕ) × (g.erased ≡ f.erased + 4096 * k)

pub whole-none : (f : Flash) → Whole f f
whole-none f = record { earlier = λ c. c; slots = λ _. (0, omega arith); sectors = λ _. (0, omega arith) }

pub whole-on : (f g h : Flash) → Whole f g → Whole g h → Whole f h
whole-on f g h a b = record {
  earlier = λ c. a.earlier (b.earlier c);
  slots = λ c. let x = a.slots (b.earlier c) in let y = b.slots c in (x.0 + y.0, omega (arith, x.1, y.1));
  sectors = λ c. let x = a.sectors (b.earlier c) in let y = b.sectors c in (x.0 + y.0, omega (arith, x.1, y.1));
}

program-full : (s k : ℕ) (new : List ℕ) (f : Flash) → Whole f (program s k new f).flash
program-full s k new f = go (program-outcome s k new f)
  where
    go : {r : Stepped} → Programmed s k new f r → Whole f r.flash
    go (program-refused h) = record { earlier = λ c. c; slots = λ _. (0, omega arith); sectors = λ _. (0, omega arith) }
    go (program-stopped e h) =
        record { earlier = λ c. absurd (false≢true (sym c)); slots = λ c. absurd (false≢true (sym c)); sectors = λ _. (0, omega arith) }
    go (program-whole e h) = record { earlier = λ c. c; slots = λ _. (1, omega arith); sectors = λ _. (0, omega arith) }

erase-full : (s : ℕ) (f : Flash) → Whole f (erase s f).flash
erase-full s f = go (erase-outcome s f)
  where
    go : {r : Stepped} → Erased s f r → Whole f r.flash
    go (erase-refused h) = record { earlier = λ c. c; slots = λ _. (0, omega arith); sectors = λ _. (0, omega arith) }
    go (erase-stopped e h) =
        record { earlier = λ c. absurd (false≢true (sym c)); slots = λ _. (0, omega arith); sectors = λ c. absurd (false≢true (sym c)) }
    go (erase-whole e h) = record { earlier = λ c. c; slots = λ _. (0, omega arith); sectors = λ _. (1, omega arith) }

pub commit-full : (n a : ℕ) (t : List Raw) (m s : ℕ) (last : Answer) (state : State) (next : ℕ) (f : Flash) → s < n
    → Whole f (commit_from m n a s t last state next f).flash
commit-full n a t =
    commit_trace Whole whole-none whole-on (λ s. Any) Any (λ s k new f _. program-full s k new f) (λ s f _. erase-full s f) n a t
    (λ s u z. tt) (λ s i u z l. tt)

pub append-full : (n s seq head next : ℕ) (r : Raw) (t : List Raw) (f : Flash) → s < n → head ≤ 256
    → Whole f (append_of n s seq head next r t f).flash
append-full n s seq head next r t f within high =
    append_trace Whole whole-none whole-on (λ s. Any) Any (λ s k new f _. program-full s k new f) (λ s f _. erase-full s f) n s seq head
    next r t f within high (λ i l u z. tt) (λ x u z. tt) (λ x i u z l. tt)

-- ---- sectors
-- of m sectors from s on, those that are not the one to avoid
unfoldable turns : ℕ → ℕ → ℕ → ℕ → ℕ
turns zero n a s = 0
turns (suc m) n a s = pick (eqb s a) (turns m n a (sector_after n s)) (suc (turns m n a (sector_after n s)))

within_more : (p e q d : ℕ) (f g : Flash) → p ≤ q → e ≤ d → Within p e f g → Within q d f g
within_more p e q d f g h k w = record { programmed = omega (arith, w.programmed); erased = omega (arith, w.erased) }

module _ (t : List Raw) where
  abbrev one : ℕ
  one = 16 * length t + 16

  abbrev Costs : ℕ → Flash → Written → Type 0
  Costs k f w = Within (k * one) (k * 4096) f w.flash

  costs_none : (k : ℕ) (f : Flash) → Within (k * one) (k * 4096) f f
  costs_none k f = record { programmed = omega arith; erased = omega arith }

  -- one sector, and k more
  costs_on : (k : ℕ) (f g h : Flash) → Within one 4096 f g → Within (k * one) (k * 4096) g h → Within (suc k * one) (suc k * 4096) f h
  costs_on k f g h a b =
      within_more (one + k * one) (4096 + k * 4096) (suc k * one) (suc k * 4096) f h (omega arith) (omega arith)
      (within_on one 4096 (k * one) (k * 4096) f g h a b)

  commit_costs : (m n a s : ℕ) (last : Answer) (state : State) (next : ℕ) (f : Flash)
      → Costs (turns m n a s) f (commit_from m n a s t last state next f)
  unfolding commit_from turns
  commit_costs zero n a s last state next f = costs_none 0 f
  commit_costs (suc m) n a s last state next f =
      by_test (Costs (turns (suc m) n a s) f) (eqb s a) _ _ (λ e. rw e (commit_costs m n a (sector_after n s) last state next f))
      (λ e. rw e
      (by_test (Costs (suc (turns m n a (sector_after n s))) f) (eqb next seq_max) _ _ (λ _. costs_none (suc (turns m n a (sector_after n s))) f)
      (λ _. by_test (Costs (suc (turns m n a (sector_after n s))) f) (is_done (write_sector s next t f).answer) _ _
      (λ _.
      costs_on (turns m n a (sector_after n s)) f (write_sector s next t f).flash (write_sector s next t f).flash
      (sector-within s next t f) (costs_none (turns m n a (sector_after n s)) (write_sector s next t f).flash))
      (λ _. costs_on (turns m n a (sector_after n s)) f (write_sector s next t f).flash _ (sector-within s next t f)
      (commit_costs m n a (sector_after n s) (write_sector s next t f).answer state (next + 1) (write_sector s next t f).flash)))))

turns-most : (m n a s : ℕ) → turns m n a s ≤ m
unfolding turns
turns-most zero n a s = omega arith
turns-most (suc m) n a s =
    by_test (λ (k : ℕ). k ≤ suc m) (eqb s a) (turns m n a (sector_after n s)) (suc (turns m n a (sector_after n s)))
    (λ e. omega (arith, turns-most m n a (sector_after n s))) (λ e. omega (arith, turns-most m n a (sector_after n s)))

-- k sectors lie between s and a, going round
abbrev Round : ℕ → ℕ → ℕ → ℕ → Type 0
Round n a s k = (s ≤ a → s + k ≡ a) × (a < s → s + k ≡ n + a)

round_on : (n a s k : ℕ) → s < n → a < n → Round n a s (suc k) → Round n a (sector_after n s) k
round_on n a s k hs ha r = by_test (λ (x : ℕ). Round n a x k) (eqb (s + 1) n) 0 (s + 1)
    (λ e. let last = eqb-true (s + 1) n e in wrap last (ltb a s) refl)
    (λ e. let more = eqb-false (s + 1) n e in ((λ u. omega (arith, r.0 (omega arith))), (λ u. on u (ltb a s) refl)))
  where
    wrap : s + 1 ≡ n → (b : Bool) → ltb a s ≡ b → Round n a 0 k
    wrap z true e = let v = r.1 (ltb-true a s e) in ((λ u. omega arith), (λ u. absurd (omega arith)))
    wrap z false e = let v = r.0 (ltb-false a s e) in absurd (omega arith)

    on : a < s + 1 → (b : Bool) → ltb a s ≡ b → s + 1 + k ≡ n + a
    on u true e = omega (arith, r.1 (ltb-true a s e))
    on u false e = absurd (omega (arith, r.0 (ltb-false a s e)))

round_here : (n a s : ℕ) → s < n → Round n a s 0 → s ≡ a
round_here n a s hs r = go (ltb a s) refl
  where
    go : (b : Bool) → ltb a s ≡ b → s ≡ a
    go true e = absurd (omega (arith, r.1 (ltb-true a s e)))
    go false e = omega (arith, r.0 (ltb-false a s e))

round_from : (n s : ℕ) → s < n → Round n s (sector_after n s) (n - 1)
round_from n s h = by_test (λ (x : ℕ). Round n s x (n - 1)) (eqb (s + 1) n) 0 (s + 1)
    (λ e. let last = eqb-true (s + 1) n e in ((λ u. omega arith), (λ u. absurd (omega arith))))
    (λ e. ((λ u. absurd (omega arith)), (λ u. omega arith)))

-- a round that meets the sector to avoid writes one sector fewer
turns_round : (k n a s : ℕ) → s < n → a < n → Round n a s k → turns (suc k) n a s ≤ k
unfolding turns
turns_round zero n a s hs ha r = rw (eq-eqb s a (round_here n a s hs r)) (omega arith)
turns_round (suc k) n a s hs ha r =
    by_test (λ (j : ℕ). j ≤ suc k) (eqb s a) (turns (suc k) n a (sector_after n s)) (suc (turns (suc k) n a (sector_after n s)))
    (λ e. omega (arith, turns-most (suc k) n a (sector_after n s)))
    (λ e. omega (arith, turns_round k n a (sector_after n s) (after-within n s hs) ha (round_on n a s k hs ha r)))

turns-after : (n s : ℕ) → s < n → turns n n s (sector_after n s) ≤ n - 1
turns-after n s h =
    let all : suc (n - 1) ≡ n = omega arith in
    subst (λ (m : ℕ). turns m n s (sector_after n s) ≤ n - 1) all (turns_round (n - 1) n s (sector_after n s) (after-within n s h) h (round_from n s h))

-- ---- the paper's bounds
module _ (t : List Raw) (n : ℕ) (few : n ≤ 16) where
  -- at most 32 records, and the active sector is skipped
  after_costs : (s : ℕ) (state : State) (next : ℕ) (f : Flash) → s < n → length t ≤ 32 → Within 7920 61440 f (commit_after n s t state next f).flash
  after_costs s state next f h most =
      let k = turns n n s (sector_after n s) in
      let fewer : k ≤ 15 = omega (arith, turns-after n s h) in
      let small : one t ≤ 528 = omega arith in
      let all : k * one t ≤ 15 * 528 = mul-le-mul fewer small in
      within_more (k * one t) (k * 4096) 7920 61440 f _ (omega arith) (omega arith) (commit_costs t n n s (sector_after n s) (Err WriteError) state next f)

  -- at most 8 seeds, and no sector is skipped
  pub first_costs : (state : State) (next : ℕ) (f : Flash) → length t ≤ 8 → Within 2304 65536 f (commit_first n t state next f).flash
  first_costs state next f most =
      let k = turns n n n 0 in
      let fewer : k ≤ 16 = omega (arith, turns-most n n n 0) in
      let small : one t ≤ 144 = omega arith in
      let all : k * one t ≤ 16 * 144 = mul-le-mul fewer small in
      within_more (k * one t) (k * 4096) 2304 65536 f _ (omega arith) (omega arith) (commit_costs t n n n 0 (Err WriteError) state next f)

  pub append_costs : (s seq head next : ℕ) (r : Raw) (f : Flash) → s < n → length t ≤ 32
      → Within 7968 61440 f (append_of n s seq head next r t f).flash
  unfolding append_of
  append_costs s seq head next r f h most =
      let o = tries_from 3 s head (slot_of seq r) (Err WriteError) f in
      let w = tries-within 3 s head (slot_of seq r) (Err WriteError) f in
      by_test (λ (x : Written). Within 7968 61440 f x.flash) o.full _ _
      (λ _. within_on 48 0 7920 61440 f o.flash _ w (after_costs s (Active s seq o.head) next o.flash h most))
      (λ _. within_more 48 0 7968 61440 f o.flash (omega arith) (omega arith) w)

-- three tries that fit into the sector never commit
tries-fit : (m s head : ℕ) (bytes : List ℕ) (last : Answer) (f : Flash) → head + m ≤ 256 → (tries_from m s head bytes last f).full ≡ false
unfolding tries_from
tries-fit zero s head bytes last f h = refl
tries-fit (suc m) s head bytes last f h =
    by_test (λ (o : SlotTries). o.full ≡ false) (eqb head 256) _ _ (λ e. absurd (omega (arith, eqb-true head 256 e)))
    (λ _. by_test (λ (o : SlotTries). o.full ≡ false) (is_done (program s head bytes f).answer) _ _ (λ _. refl)
    (λ _. tries-fit m s (head + 1) bytes (program s head bytes f).answer (program s head bytes f).flash (omega arith)))

pub append_light : (n s seq head next : ℕ) (r : Raw) (t : List Raw) (f : Flash) → head + 3 ≤ 256
    → Within 48 0 f (append_of n s seq head next r t f).flash
unfolding append_of
append_light n s seq head next r t f h = rw (tries-fit 3 s head (slot_of seq r) (Err WriteError) f h) (tries-within 3 s head (slot_of seq r) (Err WriteError) f)
