-- A look: what it says of a log and finds in it, and how its tests decide that one by one.
use mathlib.Core.Path.{◌≡◌, sym}
use mathlib.Core.Bool.{true, false, and-false}
use Prim.Native.Nat.{ℕ, ◌≤◌, ◌<◌}
use lib.ListN.{drop}
use borrow.Author.Tests.{eq-eqb, ne_eqb, le-leb, lt-leb}
use Rattle.records.specs.declared.Log.{Log}
use Rattle.std.specs.Prelude.{Option, Some, None, is_some}
use Rattle.records.specs.Table.{limit}
use Rattle.records.specs.Logs.{records_of}
use Rattle.basics.proofs.ChoiceLaws.{by_test}
use Rattle.records.specs.declared.fitting.Looked.{Looked}
use Rattle.records.specs.Fitting.{state_fits, all_zeros, log_fits, looked_of}
use Rattle.records.specs.Surveys.{found_in, survey_of}

module _ (n tag id : ℕ) (log : Log) where
  -- what a look says of the log, and what it finds
  pub looked_fits : is_some (looked_of n tag id log) ≡ log_fits n log
  unfolding looked_of
  looked_fits = by_test (λ (r : Option Looked). is_some r ≡ log_fits n log) (log_fits n log) (Some (found_in tag id (records_of log))) None sym sym

  pub looked_found : log_fits n log ≡ true → looked_of n tag id log ≡ Some (found_in tag id (records_of log))
  unfolding looked_of
  looked_found e = rw e

  pub looked_refused : log_fits n log ≡ false → looked_of n tag id log ≡ None
  unfolding looked_of
  looked_refused e = rw e

  -- by its tests: what each refuses, and what is left to the records where none does
  pub no_seq : log.next_seq ≡ 0 → None ≡ looked_of n tag id log
  unfolding looked_of log_fits
  no_seq e = rw (eq-eqb log.next_seq 0 e)

  pub looked_of_many : limit < log.count → None ≡ looked_of n tag id log
  unfolding looked_of log_fits
  looked_of_many h = rw (lt-leb log.count limit h, and-false)

  pub bad_state : state_fits n log.state log.next_seq log.count ≡ false → None ≡ looked_of n tag id log
  unfolding looked_of log_fits
  bad_state e = rw (e, and-false, and-false)

  pub bad_places : all_zeros (drop log.count log.table) ≡ false → None ≡ looked_of n tag id log
  unfolding looked_of log_fits
  bad_places e = rw (e, and-false, and-false, and-false)

  pub by_keys : (log.next_seq ≡ 0 → ⊥) → log.count ≤ limit → state_fits n log.state log.next_seq log.count ≡ true
      → all_zeros (drop log.count log.table) ≡ true → survey_of tag id (records_of log) ≡ looked_of n tag id log
  unfolding looked_of log_fits
  by_keys a b c d = rw (ne_eqb log.next_seq 0 a, le-leb log.count limit b, c, d)
