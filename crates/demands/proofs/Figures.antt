-- The figures of calls on a healthy flash, in any session.
use Rattle.codec.specs.declared.Raw.{Raw}
use Rattle.std.specs.Prelude.{Option}
use mathlib.Core.Path.{◌≡◌, refl, sym, ap, subst, ◌∙◌}
use mathlib.Core.Bool.{Bool, true, false≢true}
use mathlib.Core.List.{List}
use Prim.Native.Nat.{ℕ}
use native.Mathlib.Omega.{arith}
use lib.ListN.{length}
use Rattle.ids.specs.declared.Anchor.{Anchor}
use Rattle.flash.specs.Image.{sectors_in}
use Rattle.flash.specs.Run.{Flash}
use Rattle.records.specs.declared.State.{State}
use Rattle.records.specs.declared.State.TheVariants.{Active}
use Rattle.records.specs.declared.Log.{Log}
use Rattle.records.specs.Logs.{records_of}
use Rattle.decisions.specs.declared.Decision.{Decision}
use Rattle.decisions.specs.Decisions.{when_active, writes_record, record_in}
use Rattle.records.specs.Table.{held_of}
use Rattle.reads.specs.Entering.{room_for}
use Rattle.decisions.specs.declared.seeds.Seed.{Seed}
use Rattle.decisions.specs.Seeds.{seeds_known, seed_table}
use Rattle.decisions.specs.Outcomes.{Outcome, flash_of, entered}
use Rattle.decisions.specs.Performing.{performed, decided}
use Rattle.counter_log.specs.Calls.{anchored, put_anchor_of, format_on, format_of}
use Rattle.demands.specs.Healthy.{Healthy, healthy}
use Rattle.demands.specs.Typed.{TypedSeeds}
use Rattle.demands.specs.Calls.{Call, put-anchor, outcome_of, Typed}
use Rattle.demands.specs.Figures.{Reports, decision_of, WritesWell, FormatsWell, HealthyWrites, HealthyFormats}
use Rattle.demands.specs.Demand1.{known_in}
use Rattle.demands.proofs.Tables.{Writable}
use Rattle.demands.proofs.Invariant.{Agrees, Inv, inv-fits}
use Rattle.demands.proofs.SafePerforming.{writes_writable}
use Rattle.demands.proofs.FiguresSucceeding.{Succeeds, performed-appends, performed_rotates, formatted_succeeds}
use Rattle.demands.proofs.CallsDeciding.{anchor-sound}
use Rattle.demands.proofs.SafeCalls.{seeds_proper}
use Rattle.demands.proofs.Demand1.{entered_on}
use Rattle.demands.specs.Sessions.{now}
use Rattle.demands.proofs.Demand3.{session_agrees}
use Rattle.demands.proofs.CallsShapes.{Shape, by_kind}

module _ (image : List ℕ) (log : Log) (i : Inv image log) where
  abbrev n : ℕ
  n = sectors_in (length image)

  abbrev f : Flash
  f = flash_of image healthy

  well : Healthy f
  well = record { endless = refl; erasing = refl; willing = refl }

  reports : (value : ℕ) (l : Log) (p e : ℕ) (o : Outcome) → Succeeds f value l p e o → Reports value l p e o
  reports value l p e o s = record {
    answer = s.answer;
    value-is = s.value-is;
    log_is = s.log_is;
    programmed-is = s.used.programmed ∙ omega arith;
    erased-is = s.used.erased ∙ omega arith;
  }

  -- a call that is let in on an Active log performs its decision
  active-some : (s seq head : ℕ) → log.state ≡ Active s seq head → n ≡ 0 → ⊥
  active-some s seq head e z =
      let there = subst (λ (y : State). Agrees n image y log.next_seq (records_of log)) e i.agrees in
      omega (arith, there.found.placed.within)

  keyed-is : (known : Bool) (tag id : ℕ) (d : Option Raw → Bool → Decision) → known ≡ true → (s seq head : ℕ) → log.state ≡ Active s seq head
      → entered image log healthy known (decided tag id d) ≡ performed (d (held_of tag id (records_of log)) (room_for tag id (records_of log))) n log f
  keyed-is known tag id d k s seq head e =
      entered_on image log healthy (active-some s seq head e) (inv-fits image log i) known (decided tag id d) k
      ∙ ap (λ (z : State). performed (when_active z (d (held_of tag id (records_of log)) (room_for tag id (records_of log)))) n log f) e

  anchor-is : (new : Anchor) → (s seq head : ℕ) → log.state ≡ Active s seq head
      → put_anchor_of image log healthy new ≡ performed (decision_of (put-anchor new) (records_of log)) n log f
  unfolding put_anchor_of
  anchor-is new s seq head e =
      entered_on image log healthy (active-some s seq head e) (inv-fits image log i) true
      (λ (n : ℕ) (l : Log) (f : Flash). anchored l.state new n l f) refl
      ∙ ap (λ (z : State). anchored z new n log f) e
      ∙ ap (λ (z : State). performed (when_active z (decision_of (put-anchor new) (records_of log))) n log f) e

  call-is : (c : Call) → known_in c ≡ true → (s seq head : ℕ) → log.state ≡ Active s seq head → writes_record (decision_of c (records_of log)) ≡ true
      → outcome_of c image log healthy ≡ performed (decision_of c (records_of log)) n log f
  call-is =
      by_kind
      (λ (x : Shape).
      x.known ≡ true → (s seq head : ℕ) → log.state ≡ Active s seq head → writes_record (x.decision (records_of log)) ≡ true
      → x.outcome image log healthy ≡ performed (x.decision (records_of log)) n log f)
      (λ typed known tag id d r m k s seq head e w. keyed-is known tag id d k s seq head e)
      (λ new k s seq head e w. anchor-is new s seq head e) (λ seeds count k s seq head e w. absurd (false≢true w))

  -- what it writes may be written
  call_writable : (c : Call) → Typed c → writes_record (decision_of c (records_of log)) ≡ true → Writable (record_in (decision_of c (records_of log))) (records_of log)
  call_writable =
      by_kind (λ (x : Shape). x.typed → writes_record (x.decision (records_of log)) ≡ true → Writable (record_in (x.decision (records_of log))) (records_of log))
      (λ typed known tag id d r m t e. writes_writable _ _ (records_of log) (m.sound t (records_of log) i.agrees.proper.whole e))
      (λ new t e. writes_writable _ _ (records_of log) (anchor-sound new t (records_of log) i.agrees.proper.whole e))
      (λ seeds count t e. absurd (false≢true e))

  writes-well : (c : Call) → Typed c → WritesWell c image log
  writes-well c typed = record {
    append = λ k s seq head e w room.
        subst (Reports _ _ 16 0) (sym (call-is c k s seq head e w))
        (reports _ _ 16 0 _
        (performed-appends f log refl i well (decision_of c (records_of log)) w (call_writable c typed w) s seq head e room));
    commit = λ k s seq head e w full others most.
        subst (Reports _ _ _ 4096) (sym (call-is c k s seq head e w))
        (reports _ _ _ 4096 _
        (performed_rotates f log refl i well (decision_of c (records_of log)) w (call_writable c typed w) s seq head e full others
        most));
  }

  formats-well : (seeds : List Seed) (count : ℕ) → TypedSeeds seeds → FormatsWell seeds count image log
  unfolding format_of
  formats-well seeds count typed k e most =
      let there = subst (λ (y : State). Agrees n image y log.next_seq (records_of log)) e i.agrees in
      let some : n ≡ 0 → ⊥ = λ z. omega (arith, there.found.1) in
      let on =
      entered_on image log healthy some (inv-fits image log i) (seeds_known seeds count)
      (λ (n : ℕ) (l : Log) (f : Flash). format_on l.state (seed_table seeds count) n l f) k in
      subst (Reports 0 _ _ 4096) (sym (on ∙ ap (λ (z : State). format_on z (seed_table seeds count) n log f) e))
      (reports 0 _ _ 4096 _ (formatted_succeeds f log refl i well e (seed_table seeds count) (seeds_proper image log i seeds count typed k) most))

-- ---- in any session
pub healthy-writes : HealthyWrites
healthy-writes image ms p = writes-well (now image ms).image (now image ms).log (session_agrees image ms p)

pub healthy-formats : HealthyFormats
healthy-formats image ms p = formats-well (now image ms).image (now image ms).log (session_agrees image ms p)
