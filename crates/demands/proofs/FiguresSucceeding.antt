-- What calls report on a healthy flash: "A healthy append reports 16 and 0; a healthy commit of r records 16 × (r + 1) and 4,096."
use Rattle.basics.specs.Answers.{all_done, is_done}
use mathlib.Core.Path.{◌≡◌, refl, sym, ap, ap₂, subst, ◌∙◌}
use mathlib.Core.Bool.{Bool, true, false}
use mathlib.Core.List.{List, []}
use Prim.Native.Nat.{ℕ, ◌+◌, ◌*◌, ◌<◌}
use lib.ListN.{length}
use Rattle.basics.specs.Choice.{pick}
use Rattle.codec.specs.declared.Raw.{Raw}
use Rattle.flash.specs.Image.{sectors_in}
use Rattle.flash.specs.Run.{Flash}
use Rattle.records.specs.declared.State.{State}
use Rattle.records.specs.declared.State.TheVariants.{Unformatted, Active}
use Rattle.records.specs.declared.Log.{Log}
use Rattle.records.specs.Table.{joined}
use Rattle.records.specs.Logs.{log_of, records_of}
use Rattle.records.specs.Fitting.{seq_max}
use Rattle.sectors.specs.Commits.{Written, sector_after, commit_first}
use Rattle.sectors.specs.Appends.{append_of}
use Rattle.decisions.specs.declared.Decision.{Decision}
use Rattle.decisions.specs.Decisions.{writes_record, record_in, reply_in}
use Rattle.decisions.proofs.PerformingLaws.{performed-writes}
use Rattle.decisions.specs.Outcomes.{Outcome}
use Rattle.decisions.specs.Performing.{written_outcome, appended, performed, formatted}
use Rattle.demands.specs.Healthy.{Healthy}
use Rattle.demands.proofs.Tables.{Proper, Writable}
use Rattle.demands.proofs.Invariant.{Agrees, Inv}
use Rattle.demands.proofs.Endings.{Used}
use Rattle.demands.proofs.HealthyReaching.{Reached, append-reached, append_rotated, first-reached}

-- done, with this value and log, for so many bytes, and the flash is as healthy as before
pub record Succeeds (f : Flash) (value : ℕ) (log : Log) (p e : ℕ) (o : Outcome) : Type 0 where
  pub answer : o.answer ≡ all_done
  pub value-is : o.value ≡ value
  pub log_is : o.log ≡ log
  pub used : Used p e f o.flash
  pub on : o.flash.cut ≡ false
  pub healthy : Healthy o.flash

wrote_succeeds : (f : Flash) (w : Written) (state : State) (next p e value : ℕ) (new old : List Raw) → Reached f w state next p e
    → Succeeds f value (log_of state next new) p e (written_outcome w value new old)
wrote_succeeds f w state next p e value new old x =
    let d = ap is_done x.answer in
    record {
      answer = x.answer;
      value-is = ap (λ (b : Bool). pick b value 0) d;
      log_is =
          ap (λ (b : Bool). log_of w.state w.next (pick b new old)) d
          ∙ ap₂ (λ (z : State) (m : ℕ). log_of z m new) x.state-is x.next-is;
      used = x.used;
      on = x.on;
      healthy = x.healthy;
    }

module _ (f : Flash) (log : Log) (on : f.cut ≡ false) (i : Inv f.image log) (h : Healthy f) where
  abbrev n : ℕ
  n = sectors_in (length f.image)

  abbrev next : ℕ
  next = log.next_seq

  here : (state : State) → log.state ≡ state → Agrees n f.image state next (records_of log)
  here state e = subst (λ (z : State). Agrees n f.image z next (records_of log)) e i.agrees

  module _ (d : Decision) (writes : writes_record d ≡ true) (w : Writable (record_in d) (records_of log)) (s seq head : ℕ)
      (active : log.state ≡ Active s seq head) where
    abbrev new : List Raw
    new = joined (record_in d) (records_of log)

    performed-is : performed d n log f ≡ written_outcome (append_of n s seq head next (record_in d) new f) (reply_in d) new (records_of log)
    performed-is =
        performed-writes d writes n log f
        ∙ ap (λ (z : State). appended z n (record_in d) (reply_in d) log f) active

    pub performed-appends : head < 256 → Succeeds f (reply_in d) (log_of (Active s seq (head + 1)) next new) 16 0 (performed d n log f)
    performed-appends room =
        subst (Succeeds f (reply_in d) (log_of (Active s seq (head + 1)) next new) 16 0) (sym performed-is)
        (wrote_succeeds f _ (Active s seq (head + 1)) next 16 0 (reply_in d) new (records_of log)
        (append-reached n s seq (record_in d) (records_of log) w next head f room on (here (Active s seq head) active) h))

    pub performed_rotates : head ≡ 256 → 1 < n → (next ≡ seq_max → ⊥)
        → Succeeds f (reply_in d) (log_of (Active (sector_after n s) next (length new + 1)) (next + 1) new) (16 * (length new + 1)) 4096
        (performed d n log f)
    performed_rotates full others most =
        subst (Succeeds f (reply_in d) (log_of (Active (sector_after n s) next (length new + 1)) (next + 1) new) (16 * (length new + 1)) 4096)
        (sym performed-is)
        (wrote_succeeds f _ (Active (sector_after n s) next (length new + 1)) (next + 1) (16 * (length new + 1)) 4096 (reply_in d) new (records_of log)
        (append_rotated n s seq (record_in d) (records_of log) w next head full f others most on (here (Active s seq head) active) h))

  pub formatted_succeeds : log.state ≡ Unformatted → (t : List Raw) → Proper t → (next ≡ seq_max → ⊥)
      → Succeeds f 0 (log_of (Active 0 next (length t + 1)) (next + 1) t) (16 * (length t + 1)) 4096 (formatted t n log f)
  formatted_succeeds e t proper most =
      let there = here Unformatted e in
      let bare = subst (λ (l : List Raw). Agrees n f.image Unformatted next l) there.found.0 there in
      subst
      (λ (z : State).
      Succeeds f 0 (log_of (Active 0 next (length t + 1)) (next + 1) t) (16 * (length t + 1)) 4096
      (written_outcome (commit_first n t z next f) 0 t []))
      (sym e)
      (wrote_succeeds f _ (Active 0 next (length t + 1)) (next + 1) (16 * (length t + 1)) 4096 0 t []
      (first-reached n next t proper f.image bare f refl most on h))
