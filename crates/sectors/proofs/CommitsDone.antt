-- What a commit that is done has made: an Active state in one of the sectors, one past its records, and the next number.
use Rattle.std.specs.Prelude.{Err}
use Rattle.basics.specs.Answers.{all_done, is_done, Answer}
use mathlib.Core.Path.{◌≡◌, refl, sym, ◌∙◌}
use mathlib.Core.Bool.{true, false, false≢true}
use mathlib.Core.List.{List}
use Prim.Native.Nat.{ℕ, zero, suc, ◌+◌, ◌<◌}
use lib.Dec.{eqb}
use lib.ListN.{length}
use Rattle.records.specs.Fitting.{seq_max}
use Rattle.basics.specs.Choice.{pick}
use Rattle.basics.specs.declared.Refusal.TheVariants.{WriteError}
use Rattle.basics.proofs.ChoiceLaws.{by_test}
use Rattle.codec.specs.declared.Raw.{Raw}
use Rattle.flash.specs.Run.{Flash}
use Rattle.records.specs.declared.State.{State}
use Rattle.records.specs.declared.State.TheVariants.{Active}
use Rattle.sectors.specs.Sectors.{write_sector}
use Rattle.sectors.specs.Commits.{Written, sector_after, commit_from}
use Rattle.sectors.proofs.SectorsTurns.{after-within}

pub record Committed (n : ℕ) (t : List Raw) (w : Written) : Type 0 where
  pub sector : ℕ
  pub seq : ℕ
  pub active : w.state ≡ Active sector seq (length t + 1)
  pub within : sector < n
  pub raised : w.next ≡ seq + 1

pub committed : (m n avoid s : ℕ) (t : List Raw) (last : Answer) (state : State) (next : ℕ) (f : Flash) → s < n → is_done last ≡ false
    → is_done (commit_from m n avoid s t last state next f).answer ≡ true → Committed n t (commit_from m n avoid s t last state next f)
unfolding commit_from
committed zero n avoid s t last state next f h l = λ d. absurd (false≢true (sym l ∙ d))
committed (suc m) n avoid s t last state next f h l =
    let o = write_sector s next t f in
    let skipped = commit_from m n avoid (sector_after n s) t last state next f in
    let further = commit_from m n avoid (sector_after n s) t o.answer state (next + 1) o.flash in
    let held : Written = record { answer = Err WriteError; state = state; next = next; flash = f } in
    let done : Written = record { answer = all_done; state = Active s next (length t + 1); next = next + 1; flash = o.flash } in
    let P : Written → Type 0 = λ (w : Written). is_done w.answer ≡ true → Committed n t w in
    by_test P (eqb s avoid) skipped (pick (eqb next seq_max) held (pick (is_done o.answer) done further))
    (λ e. committed m n avoid (sector_after n s) t last state next f (after-within n s h) l)
    (λ e.
    by_test P (eqb next seq_max) held (pick (is_done o.answer) done further)
    (λ e d. absurd (false≢true d))
    (λ e.
    by_test P (is_done o.answer) done further
    (λ d x. record { sector = s; seq = next; active = refl; within = h; raised = refl })
    (λ d. committed m n avoid (sector_after n s) t o.answer state (next + 1) o.flash (after-within n s h) d)))
