-- "The table after a call is the one it reaches on a flash that refuses nothing": the tables that the calls are safe for are those.
use mathlib.Core.Path.{◌≡◌, refl, sym, ap, subst, ◌∙◌}
use mathlib.Core.Bool.{Bool, true, false, false≢true}
use mathlib.Core.List.{List, []}
use mathlib.Core.Logic.{◌⊎◌, inl, inr}
use Prim.Native.Nat.{ℕ}
use lib.ListN.{length}
use Rattle.basics.specs.Choice.{pick}
use Rattle.codec.specs.declared.Raw.{Raw}
use Rattle.flash.specs.declared.Plan.{Plan}
use Rattle.flash.specs.Image.{sectors_in}
use Rattle.flash.specs.Run.{Flash}
use Rattle.records.specs.declared.State.{State}
use Rattle.records.specs.declared.State.TheVariants.{Unformatted, Failed, Active}
use Rattle.records.specs.declared.Log.{Log}
use Rattle.records.specs.Table.{joined}
use Rattle.records.specs.Logs.{log_of, records_of}
use Rattle.sectors.specs.Commits.{Written, commit_first}
use Rattle.sectors.specs.Appends.{append_of}
use Rattle.decisions.specs.declared.Decision.{Decision}
use Rattle.decisions.specs.declared.Decision.TheVariants.{Refuse, Give, Write}
use Rattle.decisions.specs.Decisions.{writes_record, record_in}
use Rattle.decisions.specs.Outcomes.{Outcome, flash_of}
use Rattle.decisions.specs.Performing.{written_outcome, appended, performed, formatted}
use Rattle.demands.specs.Healthy.{Healthy, healthy}
use Rattle.demands.specs.Seen.{Seen, Table, holding, table_in, table_of}
use Rattle.demands.proofs.Tables.{Proper, Writable}
use Rattle.demands.proofs.Invariant.{Agrees, Inv}
use Rattle.demands.proofs.Endings.{Fails}
use Rattle.demands.proofs.HealthyReaching.{Reaches, append_reaches, first_reaches}
use Rattle.demands.proofs.SafePerforming.{SafeCall, lasted, stopped, seen_by_same, decided_table}

-- on a healthy flash the call comes to this table; or on no flash does it do anything
abbrev pub Attains : List ℕ → Table → (Flash → Outcome) → Type 0
Attains image later run =
    ((f : Flash) → f.image ≡ image → f.cut ≡ false → Healthy f → table_of (run f).log ≡ later)
    ⊎ ((f : Flash) → ((run f).flash ≡ f) × Fails (run f).answer)

-- a call that is safe for the table that it attains is safe for the table after it
pub attained : (n : ℕ) (C : List ℕ → Type 0) (P : Seen → Type 0) (later : Table) (image : List ℕ) (plan : Plan) (run : Flash → Outcome)
    → Attains image later run
    → SafeCall n C P later (run (flash_of image plan)) → SafeCall n C P (table_of (run (flash_of image healthy)).log) (run (flash_of image plan))
attained n C P later image plan run (inl k) s =
    subst (λ (z : Table). SafeCall n C P z (run (flash_of image plan)))
    (sym (k (flash_of image healthy) refl refl (record { endless = refl; erasing = refl; willing = refl }))) s
attained n C P later image plan run (inr k) s = go s
  where
    go : SafeCall n C P later (run (flash_of image plan)) → SafeCall n C P (table_of (run (flash_of image healthy)).log) (run (flash_of image plan))
    go (lasted on z i (inl d)) = absurd (false≢true (sym (k (flash_of image plan)).1 ∙ d.0))
    go (lasted on z i (inr d)) = lasted on z i (inr d)
    go (stopped c e w) = absurd (false≢true (sym (ap (λ (f : Flash). f.cut) (k (flash_of image plan)).0) ∙ c.marked))

wrote-attains : (image : List ℕ) (state : State) (next value : ℕ) (new old : List Raw) (run : Flash → Written) → Reaches image state next new run
    → Attains image (holding new) (λ (f : Flash). written_outcome (run f) value new old)
wrote-attains image state next value new old run (inl k) =
    inl (λ f i on h.
    let r = k f i on h in
    ap (λ (b : Bool). table_of (log_of (run f).state (run f).next (pick b new old))) r.0
    ∙ ap table_in (seen_by_same (run f).state (run f).next new)
    ∙ r.1)
wrote-attains image state next value new old run (inr k) = inr (λ f. ((k f).flash-is, (k f).fails))

module _ (image : List ℕ) (log : Log) (i : Inv image log) where
  abbrev n : ℕ
  n = sectors_in (length image)

  here : (state : State) → log.state ≡ state → Agrees n image state log.next_seq (records_of log)
  here state e = subst (λ (z : State). Agrees n image z log.next_seq (records_of log)) e i.agrees

  appended-attains : (state : State) → log.state ≡ state → (r : Raw) (value : ℕ) → Writable r (records_of log)
      → Attains image (holding (joined r (records_of log))) (appended state n r value log)
  appended-attains Unformatted e r value w = inr (λ f. (refl, refl))
  appended-attains Failed e r value w = inr (λ f. (refl, refl))
  appended-attains (Active s seq head) e r value w =
      wrote-attains image (Active s seq head) log.next_seq value (joined r (records_of log)) (records_of log)
      (append_of n s seq head log.next_seq r (joined r (records_of log)))
      (append_reaches n s seq r (records_of log) w log.next_seq image head (here (Active s seq head) e))

  pub performed-attains : (d : Decision) → (writes_record d ≡ true → Writable (record_in d) (records_of log))
      → Attains image (decided_table d log) (performed d n log)
  unfolding performed
  performed-attains (Refuse x) sound = inl (λ f j on h. refl)
  performed-attains (Give value) sound = inl (λ f j on h. refl)
  performed-attains (Write r value) sound = appended-attains log.state refl r value (sound refl)

  pub formatted-attains : log.state ≡ Unformatted → (t : List Raw) → Proper t → Attains image (holding t) (formatted t n log)
  formatted-attains e t proper =
      let there = here Unformatted e in
      let bare = subst (λ (l : List Raw). Agrees n image Unformatted log.next_seq l) there.found.0 there in
      subst (λ (z : State). Attains image (holding t) (λ (f : Flash). written_outcome (commit_first n t z log.next_seq f) 0 t [])) (sym e)
      (wrote-attains image Unformatted log.next_seq 0 t [] (commit_first n t Unformatted log.next_seq)
      (first_reaches n log.next_seq t proper image bare))
