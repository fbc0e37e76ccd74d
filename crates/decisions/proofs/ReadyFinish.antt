-- What was written, shown with the new table or the old, is the outcome.
use mathlib.Core.Path.{◌≡◌, refl, sym, ap, ap₂, ◌∙◌}
use mathlib.Core.Bool.{Bool, true, false}
use mathlib.Core.List.{List}
use Prim.Native.Nat.{ℕ}
use lib.ListN.{length}
use Rattle.basics.specs.Choice.{pick}
use Rattle.std.specs.Prelude.{Result, Ok, Err}
use Rattle.basics.specs.Answers.{Answer, is_done, beside}
use Rattle.basics.specs.declared.Refusal.{Refusal}
use Rattle.codec.specs.declared.Raw.{Raw}
use Rattle.records.specs.declared.Log.{Log}
use Rattle.records.specs.Logs.{places}
use Rattle.sectors.specs.declared.Wrote as code
use Rattle.sectors.specs.Commits.{Written}
use Rattle.sectors.specs.Shown.{used_of}
use Rattle.decisions.specs.declared.outcomes.Done.{Done}
use Rattle.decisions.specs.Outcomes.{done_of}
use Rattle.decisions.specs.Performing.{written_outcome}
use Rattle.decisions.specs.Ready.{finished_of}

module _ (o : Written) (w : code.Wrote) (value : ℕ) (log : Log) (new old : List Raw) (table : List Raw) (count : ℕ) where
  -- what was written, with these places and this count
  abbrev with : ℕ → List Raw → Done
  with n t =
      record {
        answer = beside o.answer value;
        programmed = o.flash.programmed;
        erased = o.flash.erased;
        plan = o.flash.plan;
        log = record { state = o.state; next_seq = o.next; count = n; table = t };
      }

  pub finished : w ≡ record { answer = o.answer; state = o.state; next_seq = o.next; used = used_of o.flash }
      → table ≡ places new → count ≡ length new → log.table ≡ places old → log.count ≡ length old
      → finished_of w value log table count ≡ done_of (written_outcome o value new old)
  unfolding finished_of
  finished e t n t₀ n₀ =
      ap (λ (x : code.Wrote). finished_of x value log table count) e
      ∙ go (is_done o.answer)
      ∙ ap (λ (a : Result ℕ Refusal). record (with (length written) (places written)) { answer = a }) (sym (valued o.answer))
    where
      written : List Raw
      written = pick (is_done o.answer) new old

      go : (b : Bool) → with (pick b count log.count) (pick b table log.table) ≡ with (length (pick b new old)) (places (pick b new old))
      go true = ap₂ with n t
      go false = ap₂ with n₀ t₀

      valued : (a : Answer) → beside a (pick (is_done a) value 0) ≡ beside a value
      valued (Ok d) = refl
      valued (Err r) = refl
