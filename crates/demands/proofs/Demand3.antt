-- Demand 3 over sessions: open any image, make any calls; while power lasts, and at the call that is cut.
use mathlib.Core.Path.{◌≡◌, sym, ap, subst, ◌∙◌}
use mathlib.Core.Bool.{false, false≢true}
use mathlib.Core.List.{List, [], ◌∷◌}
use mathlib.Core.Logic.{◌⊎◌, inl, inr}
use Prim.Native.Nat.{ℕ}
use lib.ListN.{length}
use Rattle.flash.specs.Image.{sectors_in}
use Rattle.scan.specs.Opening.{open_of}
use Rattle.decisions.specs.Outcomes.{Outcome}
use Rattle.demands.specs.Seen.{Seen, seen, Table, table_in, table_of}
use Rattle.records.specs.Logs.{records_of}
use Rattle.demands.specs.Chance.{Unmatched}
use Rattle.demands.specs.Calls.{table_after, NoEffect, record_of, appends_to}
use Rattle.demands.specs.Sessions.{World, opened, Made, outcome, afterwards, played, AllTyped, Lasts, Powered, now}
use Rattle.demands.specs.Demand3.{FindsAgain, WakesWith, Demand3Powered, Demand3Cut}
use Rattle.demands.proofs.Invariant.{Inv, inv_open, open_inv}
use Rattle.demands.proofs.SafePerforming.{WakesUp, SafeCall, lasted, stopped}
use Rattle.demands.proofs.SafeCalls.{call-safe}

abbrev pub Agree : World → Type 0
Agree w = Inv w.image w.log

-- ---- while power lasts
safe-agrees : (n : ℕ) (C : List ℕ → Type 0) (P : Seen → Type 0) (later : Table) (o : Outcome) → o.flash.cut ≡ false
    → SafeCall n C P later o → Agree (afterwards o)
safe-agrees n C P later o e (lasted on z i d) = i
safe-agrees n C P later o e (stopped c k w) = absurd (false≢true (sym e ∙ c.marked))

pub played-agrees : (ms : List Made) (w : World) → Agree w → AllTyped ms → Lasts ms w → Agree (played ms w)
unfolding played AllTyped Lasts
played-agrees [] w i typed lasts = i
played-agrees (m ∷ ms) w i typed lasts =
    played-agrees ms (afterwards (outcome m w))
    (safe-agrees (sectors_in (length w.image))
    (Unmatched (appends_to m.call w.image w.log m.plan) (record_of m.call (records_of w.log)))
    (NoEffect m.call w.log) (table_after m.call w.image w.log) (outcome m w) lasts.0
    (call-safe w.image w.log i m.call typed.0 m.plan))
    typed.1 lasts.1

agrees_finds : (w : World) → Agree w → FindsAgain w
agrees_finds w i = let found = inv_open w.image w.log i in record { same = found.0; head = found.1 }

-- ---- one call more
safe-wakes : (w : World) (m : Made)
    → SafeCall (sectors_in (length w.image))
    (Unmatched (appends_to m.call w.image w.log m.plan) (record_of m.call (records_of w.log)))
    (NoEffect m.call w.log) (table_after m.call w.image w.log) (outcome m w)
    → WakesWith w m
safe-wakes w m (lasted on z i (inl d)) =
    let found = (inv_open (outcome m w).flash.image (outcome m w).log i).0 in
    record {
      either = λ _. inr (ap table_in found ∙ d.1);
      success = λ _. ap table_in found ∙ d.1;
      cut-fails = λ e. absurd (false≢true (sym on ∙ e));
    }
safe-wakes w m (lasted on z i (inr d)) =
    let found = (inv_open (outcome m w).flash.image (outcome m w).log i).0 in
    record {
      either = λ _. inl (subst (NoEffect m.call w.log) (sym found) d.1);
      success = λ e. absurd (false≢true (sym d.0 ∙ e));
      cut-fails = λ _. d.0;
    }
safe-wakes w m (stopped c k wakes) =
    record {
      either = λ lucky. go (wakes (lucky c.marked));
      success = λ e. absurd (false≢true (sym k ∙ e));
      cut-fails = λ _. k;
    }
  where
    go : WakesUp (NoEffect m.call w.log) (table_after m.call w.image w.log) (outcome m w).flash.image
        → NoEffect m.call w.log (seen (open_of (outcome m w).flash.image).log)
        ⊎ (table_of (open_of (outcome m w).flash.image).log ≡ table_after m.call w.image w.log)
    go u = shown u.shows
      where
        found : seen (open_of (outcome m w).flash.image).log ≡ seen u.log
        found = (inv_open (outcome m w).flash.image u.log u.inv).0

        shown : NoEffect m.call w.log (seen u.log) ⊎ (table_of u.log ≡ table_after m.call w.image w.log)
            → NoEffect m.call w.log (seen (open_of (outcome m w).flash.image).log)
            ⊎ (table_of (open_of (outcome m w).flash.image).log ≡ table_after m.call w.image w.log)
        shown (inl a) = inl (subst (NoEffect m.call w.log) (sym found) a)
        shown (inr a) = inr (ap table_in found ∙ a)

-- ---- the demand
pub session_agrees : (image : List ℕ) (ms : List Made) → Powered image ms → Agree (now image ms)
session_agrees image ms p = played-agrees ms (opened image) (open_inv image p.bytes) p.typed p.lasts

pub demand_3_powered : Demand3Powered
demand_3_powered image ms p = agrees_finds (now image ms) (session_agrees image ms p)

pub demand_3_cut : Demand3Cut
demand_3_cut image ms p m t =
    let w = now image ms in safe-wakes w m (call-safe w.image w.log (session_agrees image ms p) m.call t m.plan)
