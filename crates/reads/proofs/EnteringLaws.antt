-- What a call finds as it begins, by its tests; and what a call that only reads makes of it.
use mathlib.Core.Path.{◌≡◌, refl, sym, ap, ◌∙◌}
use mathlib.Core.Bool.{Bool, true, false, ◌||◌, false≢true}
use mathlib.Core.List.{List}
use Prim.Native.Nat.{ℕ, ◌≤◌}
use native.Mathlib.Omega.{arith}
use lib.Dec.{eqb, ltb}
use lib.ListN.{length}
use borrow.Author.Tests.{eq-eqb, ne_eqb, eqb-false, lt-ltb, ltb-true, ltb-false}
use Rattle.std.specs.Prelude.{Option, Result, Ok, Err, is_ok}
use Rattle.std.specs.Result.{result_unwrap_or}
use Rattle.basics.specs.Choice.{pick}
use Rattle.basics.specs.Answers.{Answer, all_done, is_done, on_answer, beside, answer_in}
use Rattle.basics.specs.declared.Refusal.{Refusal}
use Rattle.basics.specs.declared.Refusal.TheVariants.{BadImage, BadLog, BadId}
use Rattle.codec.specs.declared.Raw.{Raw}
use Rattle.records.specs.declared.State.{State}
use Rattle.records.specs.declared.Log.{Log}
use Rattle.records.specs.Table.{limit, place_of, holds, held_of}
use Rattle.records.specs.Logs.{records_of}
use Rattle.records.proofs.TableFinding.{place-most, place-holds}
use Rattle.records.specs.Fitting.{log_fits}
use Rattle.reads.specs.declared.Entry.{Entry}
use Rattle.reads.specs.Entering.{entry_answer, room_for, found_entry, entry_of}
use Rattle.reads.specs.Reads.{read_by}

-- ---- the tests, in their order: the answer, and so the entry
module _ (n : ℕ) (log : Log) (known : Bool) where
  pub answer_no_image : n ≡ 0 → entry_answer n log known ≡ Err BadImage
  unfolding entry_answer
  answer_no_image e = rw (eq-eqb n 0 e)

  module _ (image : n ≡ 0 → ⊥) where
    pub answer_bad_log : log_fits n log ≡ false → entry_answer n log known ≡ Err BadLog
    unfolding entry_answer
    answer_bad_log e = rw (ne_eqb n 0 image, e)

    module _ (fits : log_fits n log ≡ true) where
      pub answer_bad_id : known ≡ false → entry_answer n log known ≡ Err BadId
      unfolding entry_answer
      answer_bad_id e = rw (ne_eqb n 0 image, fits, e)

      pub answer-done : known ≡ true → entry_answer n log known ≡ all_done
      unfolding entry_answer
      answer-done e = rw (ne_eqb n 0 image, fits, e)

  pub entry_by : (tag id : ℕ) (a : Answer) → entry_answer n log known ≡ a → beside a (found_entry tag id (records_of log)) ≡ entry_of n log known tag id
  unfolding entry_of
  entry_by tag id a e = ap (λ (x : Answer). beside x (found_entry tag id (records_of log))) (sym e)

-- ---- what stands at the place of a key
module _ (tag id : ℕ) (t : List Raw) where
  abbrev at : ℕ
  at = place_of tag id t

  pub room_at : length t ≤ limit → ltb at limit ≡ room_for tag id t
  unfolding room_for
  room_at few = go (holds tag id t) (sym (place-holds tag id t))
    where
      go : (b : Bool) → b ≡ ltb (place_of tag id t) (length t) → ltb (place_of tag id t) limit ≡ (b || ltb (length t) limit)
      go true e = let h = ltb-true (place_of tag id t) (length t) (sym e) in lt-ltb (place_of tag id t) limit (omega arith)
      go false e =
          let h = ltb-false (place_of tag id t) (length t) (sym e) in
          let m = place-most tag id t in
          let same : place_of tag id t ≡ length t = omega arith in
          ap (λ (k : ℕ). ltb k limit) same

-- ---- what an entry says of the tests
pub let_in_by : (n : ℕ) (log : Log) (known : Bool) → is_done (entry_answer n log known) ≡ true → (n ≡ 0 → ⊥) × (log_fits n log ≡ true) × (known ≡ true)
unfolding entry_answer
let_in_by n log known = go (eqb n 0) refl (log_fits n log) known
  where
    go : (z : Bool) → eqb n 0 ≡ z → (f k : Bool) → is_done (pick z (Err BadImage) (pick f (pick k all_done (Err BadId)) (Err BadLog))) ≡ true
        → (n ≡ 0 → ⊥) × (f ≡ true) × (k ≡ true)
    go true e f k d = absurd (false≢true d)
    go false e true true d = (eqb-false n 0 e, refl, refl)
    go false e true false d = absurd (false≢true d)
    go false e false k d = absurd (false≢true d)

-- ---- what a call finds: the refusal that the tests give, or what they let in
module _ (n : ℕ) (log : Log) (known : Bool) (tag id : ℕ) where
  pub entry-refused : (r : Refusal) → entry_of n log known tag id ≡ Err r → entry_answer n log known ≡ Err r
  unfolding entry_of
  entry-refused r = go (entry_answer n log known)
    where
      go : (a : Answer) → beside a (found_entry tag id (records_of log)) ≡ Err r → a ≡ Err r
      go (Ok d) e = absurd (false≢true (sym (ap (λ (x : Result Entry Refusal). is_ok x) e)))
      go (Err x) e = ap answer_in e

  pub entry-let_in : (e : Entry) → entry_of n log known tag id ≡ Ok e
      → (is_done (entry_answer n log known) ≡ true) × (found_entry tag id (records_of log) ≡ e)
  unfolding entry_of
  entry-let_in e = go (entry_answer n log known)
    where
      go : (a : Answer) → beside a (found_entry tag id (records_of log)) ≡ Ok e → (is_done a ≡ true) × (found_entry tag id (records_of log) ≡ e)
      go (Ok d) k = (refl, ap (λ (x : Result Entry Refusal). result_unwrap_or x (found_entry tag id (records_of log))) k)
      go (Err x) k = absurd (false≢true (ap (λ (y : Result Entry Refusal). is_ok y) k))

-- ---- reading, by what the tests answer, and by what was found
module _ {A : Type 0} (by : State → Option Raw → A) (refused : Refusal → A) (log : Log) (known : Bool) (tag id : ℕ) where
  abbrev by_answer : Answer → A
  by_answer a = on_answer a (by log.state (held_of tag id (records_of log))) refused

  pub turned-away : (r : Refusal) → entry_answer 16 log known ≡ Err r → read_by by refused log known tag id ≡ refused r
  turned-away r e = ap by_answer e

  pub taken_in : is_done (entry_answer 16 log known) ≡ true → read_by by refused log known tag id ≡ by log.state (held_of tag id (records_of log))
  taken_in = go (entry_answer 16 log known)
    where
      go : (a : Answer) → is_done a ≡ true → by_answer a ≡ by log.state (held_of tag id (records_of log))
      go (Ok d) e = refl
      go (Err r) e = absurd (false≢true e)

  pub read-refused : (r : Refusal) → entry_of 16 log known tag id ≡ Err r → refused r ≡ read_by by refused log known tag id
  read-refused r e = sym (turned-away r (entry-refused 16 log known tag id r e))

  pub read-by : (e : Entry) → entry_of 16 log known tag id ≡ Ok e → by log.state e.held ≡ read_by by refused log known tag id
  read-by e k =
      let found = entry-let_in 16 log known tag id e k in
      ap (λ (x : Entry). by log.state x.held) (sym found.1) ∙ sym (taken_in found.0)
