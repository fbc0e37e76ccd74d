-- The first anchor: an empty format, and then the record. It is safe too, but that its own format may stand.
use Rattle.std.specs.Prelude.{Err}
use mathlib.Core.Path.{◌≡◌, refl, sym, ap, ap₂, subst, ◌∙◌}
use mathlib.Core.Bool.{Bool, true, false, false≢true}
use mathlib.Core.List.{List, []}
use mathlib.Core.Logic.{◌⊎◌, inl, inr}
use Prim.Native.Nat.{ℕ, ◌+◌}
use native.Mathlib.Omega.{arith}
use lib.Dec.{eqb}
use lib.ListN.{length}
use borrow.Author.Tests.{eqb-true, eqb-false}
use Rattle.basics.specs.Choice.{pick}
use Rattle.basics.specs.Answers.{is_done}
use Rattle.basics.specs.declared.Refusal.TheVariants.{WriteError}
use Rattle.codec.specs.declared.Raw.{Raw}
use Rattle.flash.specs.Image.{sectors_in}
use Rattle.flash.specs.Run.{Flash}
use Rattle.records.specs.declared.State.{State}
use Rattle.records.specs.declared.State.TheVariants.{Unformatted, Failed, Active}
use Rattle.records.specs.declared.Log.{Log}
use Rattle.records.specs.Table.{joined}
use Rattle.records.specs.Logs.{log_of, records_of}
use Rattle.records.specs.Fitting.{seq_max}
use Rattle.decisions.specs.declared.Decision.{Decision}
use Rattle.decisions.specs.Decisions.{writes_record, record_in}
use Rattle.decisions.specs.Outcomes.{Outcome}
use Rattle.decisions.specs.Performing.{performed, formatted}
use Rattle.demands.specs.Chance.{Unmatched}
use Rattle.demands.specs.Healthy.{Healthy}
use Rattle.demands.specs.Seen.{Seen, seen_by, seen, Table, holding, table_in, table_of}
use Rattle.demands.proofs.Tables.{proper-none, Writable}
use Rattle.demands.proofs.Invariant.{Inv}
use Rattle.demands.proofs.Endings.{Fails}
use Rattle.demands.proofs.HealthyReaching.{commit-used-idle}
use Rattle.demands.proofs.SafePerforming.{Always, WakesUp, SafeCall, lasted, stopped, safe_weaker, seen_by_same, decided_table}
use Rattle.demands.proofs.SafePerforming.{performed-safe, formatted-safe}
use Rattle.demands.proofs.CallsAttaining.{Attains}
use Rattle.demands.proofs.FiguresSucceeding.{Succeeds, performed-appends, formatted_succeeds}

-- a log that holds nothing
pub none-held : (log : Log) → table_of log ≡ holding [] → records_of log ≡ []
none-held log e = go log.state e
  where
    go : (z : State) → table_in (seen_by z (records_of log)) ≡ holding [] → records_of log ≡ []
    go Unformatted e = cc
    go Failed e = cc
    go (Active sector seq head) e = cc

-- what was seen before, or the empty log that the format left
abbrev pub OrEmpty : Log → Seen → Type 0
OrEmpty log z = (z ≡ seen log) ⊎ (table_in z ≡ holding [])

-- a format, and then what is decided on the log that it leaves
abbrev pub format_then : (Log → Decision) → ℕ → Outcome → Outcome
format_then decide n o = pick (is_done o.answer) (performed (decide o.log) n o.log o.flash) o

module _ (decide : Log → Decision) (sound : (l : Log) → writes_record (decide l) ≡ true → Writable (record_in (decide l)) (records_of l))
    (r : Raw) (decides : (l : Log) → table_of l ≡ holding [] → (writes_record (decide l) ≡ true) × (record_in (decide l) ≡ r))
    (log : Log) (unformatted : log.state ≡ Unformatted) where
  decided-table : (l : Log) → table_of l ≡ holding [] → decided_table (decide l) l ≡ holding (joined r [])
  decided-table l e =
      ap (λ (b : Bool). pick b (holding (joined (record_in (decide l)) (records_of l))) (table_of l)) (decides l e).0
      ∙ ap₂ (λ (x : Raw) (t : List Raw). holding (joined x t)) (decides l e).1 (none-held l e)

  module _ (n : ℕ) where
    then_safe : (o : Outcome) → SafeCall n Always (λ z. z ≡ seen log) (holding []) o
        → SafeCall n (Unmatched o.log.state r) (OrEmpty log) (holding (joined r [])) (format_then decide n o)
    then_safe o (lasted c z i (inl d)) =
        let l = o.log in
        let writes = decides l d.1 in
        let safe =
        performed-safe o.flash l c i (decide l) r
        (λ e. record { rec-is = writes.1; may = subst (λ (x : Raw). Writable x (records_of l)) writes.1 (sound l e) }) in
        let here =
        subst
        (λ (m : ℕ).
        SafeCall m (Unmatched l.state r) (λ x. x ≡ seen l) (decided_table (decide l) l) (performed (decide l) m l o.flash))
        z safe in
        let there =
        subst (λ (t : Table). SafeCall n (Unmatched l.state r) (λ x. x ≡ seen l) t (performed (decide l) n l o.flash))
        (decided-table l d.1) here in
        rw d.0
        (safe_weaker n (Unmatched l.state r) (Unmatched l.state r) (λ x. x ≡ seen l) (OrEmpty log) (holding (joined r []))
        (performed (decide l) n l o.flash)
        (λ _ u. u) (λ x e. inr (ap table_in e ∙ d.1)) there)
    then_safe o (lasted c z i (inr d)) = rw d.0 (lasted c z i (inr (d.0, inl d.1)))
    then_safe o (stopped c e k) = rw e (stopped c e (λ _. go (k tt)))
      where
        go : WakesUp (λ z. z ≡ seen log) (holding []) o.flash.image → WakesUp (OrEmpty log) (holding (joined r [])) o.flash.image
        go w = record { log = w.log; inv = w.inv; shows = inl w.shows }

  pub first-safe : (f : Flash) → f.cut ≡ false → Inv f.image log
      → SafeCall (sectors_in (length f.image)) (Unmatched (formatted [] (sectors_in (length f.image)) log f).log.state r)
      (OrEmpty log) (holding (joined r []))
      (format_then decide (sectors_in (length f.image)) (formatted [] (sectors_in (length f.image)) log f))
  first-safe f on i =
      then_safe (sectors_in (length f.image)) (formatted [] (sectors_in (length f.image)) log f)
      (formatted-safe f log on i unformatted [] proper-none)

  -- on a healthy flash the format is done, and the record goes into its first slot
  then_attains : (f : Flash) → f.cut ≡ false → Inv f.image log → Healthy f → (log.next_seq ≡ seq_max → ⊥)
      → table_of (format_then decide (sectors_in (length f.image)) (formatted [] (sectors_in (length f.image)) log f)).log ≡ holding (joined r [])
  then_attains f on i h most =
      go (formatted_succeeds f log on i h unformatted [] proper-none most) (formatted-safe f log on i unformatted [] proper-none)
    where
      n : ℕ
      n = sectors_in (length f.image)

      o : Outcome
      o = formatted [] n log f

      next : ℕ
      next = log.next_seq

      go : Succeeds f 0 (log_of (Active 0 next 1) (next + 1) []) 16 4096 o → SafeCall n Always (λ z. z ≡ seen log) (holding []) o
          → table_of (format_then decide n o).log ≡ holding (joined r [])
      go x (stopped c k w) = absurd (false≢true (sym x.on ∙ c.marked))
      go x (lasted c z j (inr d)) = absurd (false≢true (sym d.0 ∙ ap is_done x.answer))
      go x (lasted c z j (inl d)) =
          let l = o.log in
          let writes = decides l d.1 in
          let appends =
          performed-appends o.flash l c j x.healthy (decide l) writes.0 (sound l writes.0) 0 next 1
          (ap (λ (y : Log). y.state) x.log_is) (omega arith) in
          let table = joined (record_in (decide l)) (records_of l) in
          ap (λ (b : Bool). table_of (pick b (performed (decide l) n l o.flash) o).log) d.0
          ∙ ap (λ (m : ℕ). table_of (performed (decide l) m l o.flash).log) (sym z)
          ∙ ap table_of appends.log_is
          ∙ ap table_in (seen_by_same (Active 0 next 2) l.next_seq table)
          ∙ ap₂ (λ (y : Raw) (t : List Raw). holding (joined y t)) writes.1 (none-held l d.1)

  idle : (n : ℕ) (f : Flash) → log.next_seq ≡ seq_max
      → ((format_then decide n (formatted [] n log f)).flash ≡ f) × Fails (format_then decide n (formatted [] n log f)).answer
  idle n f e =
      let x = commit-used-idle n n n 0 [] (Err WriteError) log.state log.next_seq f refl e in
      rw x.fails (x.flash-is, x.fails)

  pub first-attains : (image : List ℕ) → Inv image log
      → Attains image (holding (joined r []))
      (λ (f : Flash). format_then decide (sectors_in (length image)) (formatted [] (sectors_in (length image)) log f))
  first-attains image i = go (eqb log.next_seq seq_max) refl
    where
      go : (b : Bool) → eqb log.next_seq seq_max ≡ b
          → Attains image (holding (joined r []))
          (λ (f : Flash). format_then decide (sectors_in (length image)) (formatted [] (sectors_in (length image)) log f))
      go true e = inr (λ f. idle (sectors_in (length image)) f (eqb-true log.next_seq seq_max e))
      go false e =
          inl (λ f j on h.
          ap (λ (l : List ℕ). table_of (format_then decide (sectors_in (length l)) (formatted [] (sectors_in (length l)) log f)).log) (sym j)
          ∙ then_attains f on (subst (λ (l : List ℕ). Inv l log) (sym j) i) h (eqb-false log.next_seq seq_max e))
