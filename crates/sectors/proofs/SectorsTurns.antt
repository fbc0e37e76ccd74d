-- The loops of writing, one turn at a time: what is left to do, from the flash as it stands, comes to what the whole does.
use Rattle.std.specs.Prelude.{Err}
use Rattle.basics.specs.Answers.{all_done, is_done, Answer}
use mathlib.Core.Path.{◌≡◌, ap, ap₂, ◌∙◌}
use mathlib.Core.Bool.{Bool, true, false}
use mathlib.Core.List.{List}
use Prim.Native.Nat.{ℕ, suc, ◌+◌, ◌-◌, ◌≤◌, ◌<◌}
use native.Mathlib.Omega.{arith}
use lib.ListN.{length, get_or, drop, drop_of_length-le}
use lib.Dec.{eqb}
use lib.Seq.{drop-cons}
use borrow.Author.Tests.{eq-eqb, ne_eqb, eqb-false}
use Rattle.records.specs.Fitting.{seq_max}
use Rattle.basics.specs.Choice.{pick}
use Rattle.basics.specs.declared.Refusal.TheVariants.{WriteError}
use Rattle.basics.proofs.ChoiceLaws.{by_test}
use Rattle.codec.specs.declared.Raw.{Raw}
use Rattle.codec.specs.Slots.{slot_of, header_slot}
use Rattle.flash.specs.Run.{Flash, Stepped, program, erase}
use Rattle.records.specs.declared.State.{State}
use Rattle.records.specs.declared.State.TheVariants.{Active}
use Rattle.records.proofs.TableJoining.{nowhere}
use Rattle.sectors.specs.Sectors.{write_records, write_sector}
use Rattle.sectors.specs.Commits.{sector_after, commit_from, commit_after}
use Rattle.sectors.specs.Appends.{SlotTries, tries_from, append_of}

-- ---- the records of a sector, i of them written
module _ (s seq : ℕ) (t : List Raw) (i : ℕ) (f : Flash) where
  pub records_end : length t ≤ i → write_records s seq (i + 1) (drop i t) f ≡ record { answer = all_done; flash = f }
  unfolding write_records
  records_end h = rw (drop_of_length-le t h)

  abbrev pub one : Stepped
  one = program s (i + 1) (slot_of seq (get_or t i nowhere)) f

  opened : i < length t
      → write_records s seq (i + 1) (drop i t) f
      ≡ pick (is_done one.answer) (write_records s seq (suc (i + 1)) (drop (suc i) t) one.flash) one
  unfolding write_records
  opened h = rw (drop-cons t i nowhere h)

  pub records_on : i < length t → is_done one.answer ≡ true
      → write_records s seq (i + 1) (drop i t) f ≡ write_records s seq (i + 1 + 1) (drop (i + 1) t) one.flash
  records_on h d =
      let next : suc (i + 1) ≡ i + 1 + 1 = omega arith in
      let there : suc i ≡ i + 1 = omega arith in
      opened h
      ∙ ap (λ (b : Bool). pick b (write_records s seq (suc (i + 1)) (drop (suc i) t) one.flash) one) d
      ∙ ap₂ (λ (k j : ℕ). write_records s seq k (drop j t) one.flash) next there

  pub records_stop : i < length t → is_done one.answer ≡ false → write_records s seq (i + 1) (drop i t) f ≡ one
  records_stop h d = opened h ∙ ap (λ (b : Bool). pick b (write_records s seq (suc (i + 1)) (drop (suc i) t) one.flash) one) d

-- ---- a sector, by the step that failed first
module _ (s seq : ℕ) (t : List Raw) (f : Flash) where
  abbrev pub wiped : Flash
  wiped = (erase s f).flash

  abbrev pub filled : Stepped
  filled = write_records s seq 1 t wiped

  pub sector_unerased : is_done (erase s f).answer ≡ false → write_sector s seq t f ≡ erase s f
  unfolding write_sector
  sector_unerased e = rw e

  pub sector_unfilled : is_done (erase s f).answer ≡ true → is_done filled.answer ≡ false → write_sector s seq t f ≡ filled
  unfolding write_sector
  sector_unfilled e d = rw (e, d)

  pub sector-headed : is_done (erase s f).answer ≡ true → is_done filled.answer ≡ true
      → write_sector s seq t f ≡ program s 0 (header_slot seq) filled.flash
  unfolding write_sector
  sector-headed e d = rw (e, d)

-- ---- a commit, with `left` sectors to go
pub after-within : (n s : ℕ) → s < n → sector_after n s < n
after-within n s h = by_test (λ (x : ℕ). x < n) (eqb (s + 1) n) 0 (s + 1) (λ e. omega arith) (λ e. let apart = eqb-false (s + 1) n e in omega arith)

module _ (left n avoid s : ℕ) (t : List Raw) (last : Answer) (state : State) (next : ℕ) (f : Flash) (more : 0 < left) where
  unrolled : left ≡ suc (left - 1)
  unrolled = omega arith

  pub commit-skip : s ≡ avoid → commit_from left n avoid s t last state next f ≡ commit_from (left - 1) n avoid (sector_after n s) t last state next f
  unfolding commit_from
  commit-skip e = ap (λ (m : ℕ). commit_from m n avoid s t last state next f) unrolled ∙ rw (eq-eqb s avoid e)

  module _ (apart : s ≡ avoid → ⊥) where
    pub commit-used-up : next ≡ seq_max
        → commit_from left n avoid s t last state next f ≡ record { answer = Err WriteError; state = state; next = next; flash = f }
    unfolding commit_from
    commit-used-up e = ap (λ (m : ℕ). commit_from m n avoid s t last state next f) unrolled ∙ rw (ne_eqb s avoid apart, eq-eqb next seq_max e)

    module _ (fresh : next ≡ seq_max → ⊥) where
      pub commit-done : is_done (write_sector s next t f).answer ≡ true
          → commit_from left n avoid s t last state next f
          ≡ record { answer = all_done; state = Active s next (length t + 1); next = next + 1; flash = (write_sector s next t f).flash }
      unfolding commit_from
      commit-done d = ap (λ (m : ℕ). commit_from m n avoid s t last state next f) unrolled ∙ rw (ne_eqb s avoid apart, ne_eqb next seq_max fresh, d)

      pub commit-on : is_done (write_sector s next t f).answer ≡ false
          → commit_from left n avoid s t last state next f
          ≡ commit_from (left - 1) n avoid (sector_after n s) t (write_sector s next t f).answer state (next + 1)
          (write_sector s next t f).flash
      unfolding commit_from
      commit-on d = ap (λ (m : ℕ). commit_from m n avoid s t last state next f) unrolled ∙ rw (ne_eqb s avoid apart, ne_eqb next seq_max fresh, d)

pub commit_end : (left n avoid s : ℕ) (t : List Raw) (last : Answer) (state : State) (next : ℕ) (f : Flash) → left ≡ 0
    → commit_from left n avoid s t last state next f ≡ record { answer = last; state = state; next = next; flash = f }
unfolding commit_from
commit_end left n avoid s t last state next f e = ap (λ (m : ℕ). commit_from m n avoid s t last state next f) e

-- ---- the tries of a slot, with `left` to go
module _ (left s head : ℕ) (bytes : List ℕ) (last : Answer) (f : Flash) where
  pub tries_end : left ≡ 0 → tries_from left s head bytes last f ≡ record { full = false; answer = last; head = head; flash = f }
  unfolding tries_from
  tries_end e = ap (λ (m : ℕ). tries_from m s head bytes last f) e

  module _ (more : 0 < left) where
    unwound : left ≡ suc (left - 1)
    unwound = omega arith

    pub tries-full : head ≡ 256 → tries_from left s head bytes last f ≡ record { full = true; answer = last; head = head; flash = f }
    unfolding tries_from
    tries-full e = ap (λ (m : ℕ). tries_from m s head bytes last f) unwound ∙ rw (eq-eqb head 256 e)

    module _ (room : head ≡ 256 → ⊥) where
      pub tries-done : is_done (program s head bytes f).answer ≡ true
          → tries_from left s head bytes last f ≡ record { full = false; answer = all_done; head = head + 1; flash = (program s head bytes f).flash }
      unfolding tries_from
      tries-done d = ap (λ (m : ℕ). tries_from m s head bytes last f) unwound ∙ rw (ne_eqb head 256 room, d)

      pub tries-on : is_done (program s head bytes f).answer ≡ false
          → tries_from left s head bytes last f
          ≡ tries_from (left - 1) s (head + 1) bytes (program s head bytes f).answer (program s head bytes f).flash
      unfolding tries_from
      tries-on d = ap (λ (m : ℕ). tries_from m s head bytes last f) unwound ∙ rw (ne_eqb head 256 room, d)

-- ---- an append, by what its tries come to
module _ (n s seq head next : ℕ) (r : Raw) (t : List Raw) (f : Flash) (w : SlotTries)
    (tried : tries_from 3 s head (slot_of seq r) (Err WriteError) f ≡ w) where
  pub append-full : w.full ≡ true → append_of n s seq head next r t f ≡ commit_after n s t (Active s seq w.head) next w.flash
  unfolding append_of
  append-full e = rw (tried, e)

  pub append_tried : w.full ≡ false
      → append_of n s seq head next r t f ≡ record { answer = w.answer; state = Active s seq w.head; next = next; flash = w.flash }
  unfolding append_of
  append_tried e = rw (tried, e)
