-- What writing costs at most: sixteen bytes a slot, 4,096 a sector; and that the image keeps its length.
use Rattle.std.specs.Prelude.{Err}
use Rattle.basics.specs.Answers.{all_done, is_done, Answer}
use mathlib.Core.Bool.{Bool, true, false}
use mathlib.Core.List.{List, [], ◌∷◌}
use Prim.Native.Nat.{ℕ, zero, suc, ◌+◌, ◌*◌, ◌≤◌}
use native.Mathlib.Omega.{arith}
use lib.Dec.{eqb}
use lib.ListN.{length}
use Rattle.records.specs.Fitting.{seq_max}
use Rattle.basics.specs.Choice.{pick}
use Rattle.basics.specs.declared.Refusal.TheVariants.{WriteError}
use Rattle.codec.specs.declared.Raw.{Raw}
use Rattle.codec.specs.Slots.{slot_of, header_slot}
use Rattle.flash.specs.Run.{Flash, Stepped, program, erase}
use Rattle.flash.proofs.PowerLaws.{to_program-most, to_erase-most}
use Rattle.basics.proofs.ChoiceLaws.{by_test}
use Rattle.sectors.specs.Sectors.{on_done, write_records, write_sector}
use Rattle.records.specs.declared.State.{State}
use Rattle.records.specs.declared.State.TheVariants.{Active}
use Rattle.sectors.specs.Commits.{Written, sector_after, commit_from}
use Rattle.sectors.specs.Appends.{SlotTries, tries_from}

-- at most p bytes more programmed, and e more erased
pub record Within (p e : ℕ) (f g : Flash) : Type 0 where
  pub programmed : g.programmed ≤ f.programmed + p
  pub erased : g.erased ≤ f.erased + e

pub within_on : (p e q d : ℕ) (f g h : Flash) → Within p e f g → Within q d g h → Within (p + q) (e + d) f h
within_on p e q d f g h a b = record { programmed = omega (arith, a.programmed, b.programmed); erased = omega (arith, a.erased, b.erased) }

pub program-within : (s k : ℕ) (new : List ℕ) (f : Flash) → Within 16 0 f (program s k new f).flash
unfolding program
program-within s k new f = record { programmed = omega (arith, to_program-most f.plan); erased = omega arith }

pub erase-within : (s : ℕ) (f : Flash) → Within 0 4096 f (erase s f).flash
unfolding erase
erase-within s f = record { programmed = omega arith; erased = omega (arith, to_erase-most f.plan) }

pub records_within : (s seq k : ℕ) (t : List Raw) (f : Flash) → Within (16 * length t) 0 f (write_records s seq k t f).flash
unfolding write_records
records_within s seq k [] f = record { programmed = omega arith; erased = omega arith }
records_within s seq k (r ∷ rs) f =
    go (records_within s seq (suc k) rs (program s k (slot_of seq r) f).flash) (is_done (program s k (slot_of seq r) f).answer)
  where
    go : Within (16 * length rs) 0 (program s k (slot_of seq r) f).flash (write_records s seq (suc k) rs (program s k (slot_of seq r) f).flash).flash
        → (b : Bool)
        → Within (16 * suc (length rs)) 0 f
        (pick b (write_records s seq (suc k) rs (program s k (slot_of seq r) f).flash) (program s k (slot_of seq r) f)).flash
    go ih true =
        let w = program-within s k (slot_of seq r) f in
        record { programmed = omega (arith, w.programmed, ih.programmed); erased = omega (arith, w.erased, ih.erased) }
    go ih false = let w = program-within s k (slot_of seq r) f in record { programmed = omega (arith, w.programmed); erased = w.erased }

-- what follows a step costs no more than both
pub done-within : (p e q d : ℕ) (f : Flash) (o : Stepped) (next : Flash → Stepped) → Within p e f o.flash
    → ((g : Flash) → Within q d g (next g).flash)
    → Within (p + q) (e + d) f (on_done o next).flash
done-within p e q d f o next a b =
    by_test (λ (r : Stepped). Within (p + q) (e + d) f r.flash) (is_done o.answer) (next o.flash) o
    (λ t. within_on p e q d f o.flash (next o.flash).flash a (b o.flash))
    (λ t. record { programmed = omega (arith, a.programmed); erased = omega (arith, a.erased) })

pub sector-within : (s seq : ℕ) (t : List Raw) (f : Flash) → Within (16 * length t + 16) 4096 f (write_sector s seq t f).flash
unfolding write_sector
sector-within s seq t f =
    let w =
    done-within 0 4096 (16 * length t + 16) 0 f (erase s f)
    (λ (g : Flash). on_done (write_records s seq 1 t g) (λ (h : Flash). program s 0 (header_slot seq) h)) (erase-within s f)
    (λ g.
    done-within (16 * length t) 0 16 0 g (write_records s seq 1 t g) (λ (h : Flash). program s 0 (header_slot seq) h)
    (records_within s seq 1 t g) (λ h. program-within s 0 (header_slot seq) h))
    in
    record { programmed = omega (arith, w.programmed); erased = omega (arith, w.erased) }

pub tries-within : (m s head : ℕ) (bytes : List ℕ) (last : Answer) (f : Flash) → Within (16 * m) 0 f (tries_from m s head bytes last f).flash
unfolding tries_from
tries-within zero s head bytes last f = record { programmed = omega arith; erased = omega arith }
tries-within (suc m) s head bytes last f =
    let o = program s head bytes f in
    let w = program-within s head bytes f in
    let again = tries_from m s (head + 1) bytes o.answer o.flash in
    let ih = tries-within m s (head + 1) bytes o.answer o.flash in
    by_test (λ (r : SlotTries). Within (16 * suc m) 0 f r.flash) (eqb head 256) (record { full = true; answer = last; head = head; flash = f })
    (pick (is_done o.answer) (record { full = false; answer = all_done; head = head + 1; flash = o.flash }) again)
    (λ e. record { programmed = omega arith; erased = omega arith })
    (λ e.
    by_test (λ (r : SlotTries). Within (16 * suc m) 0 f r.flash) (is_done o.answer)
    (record { full = false; answer = all_done; head = head + 1; flash = o.flash }) again
    (λ d. record { programmed = omega (arith, w.programmed); erased = omega (arith, w.erased) })
    (λ d. record { programmed = omega (arith, w.programmed, ih.programmed); erased = omega (arith, w.erased, ih.erased) }))

pub commit-within : (m n avoid s : ℕ) (t : List Raw) (last : Answer) (state : State) (next : ℕ) (f : Flash)
    → Within (m * (16 * length t + 16)) (m * 4096) f (commit_from m n avoid s t last state next f).flash
unfolding commit_from
commit-within zero n avoid s t last state next f = record { programmed = omega arith; erased = omega arith }
commit-within (suc m) n avoid s t last state next f =
    let o = write_sector s next t f in
    let w = sector-within s next t f in
    let one = 16 * length t + 16 in
    let skipped = commit_from m n avoid (sector_after n s) t last state next f in
    let further = commit_from m n avoid (sector_after n s) t o.answer state (next + 1) o.flash in
    let held : Written = record { answer = Err WriteError; state = state; next = next; flash = f } in
    let done : Written = record { answer = all_done; state = Active s next (length t + 1); next = next + 1; flash = o.flash } in
    let i = commit-within m n avoid (sector_after n s) t last state next f in
    let j = commit-within m n avoid (sector_after n s) t o.answer state (next + 1) o.flash in
    let P : Written → Type 0 = λ (r : Written). Within (suc m * one) (suc m * 4096) f r.flash in
    by_test P (eqb s avoid) skipped (pick (eqb next seq_max) held (pick (is_done o.answer) done further))
    (λ e. record { programmed = omega (arith, i.programmed); erased = omega (arith, i.erased) })
    (λ e.
    by_test P (eqb next seq_max) held (pick (is_done o.answer) done further)
    (λ e. record { programmed = omega arith; erased = omega arith })
    (λ e.
    by_test P (is_done o.answer) done further
    (λ d. record { programmed = omega (arith, w.programmed); erased = omega (arith, w.erased) })
    (λ d. record { programmed = omega (arith, w.programmed, j.programmed); erased = omega (arith, w.erased, j.erased) })))
