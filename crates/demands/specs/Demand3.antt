-- Demand 3: what opening finds again, while power lasts and after a cut.
use Rattle.std.specs.Prelude.{◌≡◌, true, false, ◌⊎◌, List, ℕ, ◌≤◌}
use Rattle.basics.specs.Answers.{is_done}
use Rattle.scan.specs.Opening.{open_of}
use Rattle.demands.specs.Seen.{seen, table_of, head_of}
use Rattle.demands.specs.Calls.{table_after, NoEffect, NoChance, Typed}
use Rattle.demands.specs.Sessions.{World, Made, outcome, Powered, now}

-- opening again finds the state, sector, sequence number and table that the log in memory holds, and a head no higher than its head
pub record FindsAgain (w : World) : Type 0 where
  pub same : seen (open_of w.image).log ≡ seen w.log
  pub head : head_of (open_of w.image).log.state ≤ head_of w.log.state

-- one call more, on any plan
pub record WakesWith (w : World) (m : Made) : Type 0 where
  -- cut or not, the table of before or the one after; of a call that was cut the chance match is ruled out
  pub either : ((outcome m w).flash.cut ≡ true → NoChance m.call w.image w.log m.plan)
      → NoEffect m.call w.log (seen (open_of (outcome m w).flash.image).log)
      ⊎ (table_of (open_of (outcome m w).flash.image).log ≡ table_after m.call w.image w.log)
  -- the latter if the call answered 0
  pub success : is_done (outcome m w).answer ≡ true → table_of (open_of (outcome m w).flash.image).log ≡ table_after m.call w.image w.log
  -- and a call that was cut never answers 0
  pub cut-fails : (outcome m w).flash.cut ≡ true → is_done (outcome m w).answer ≡ false

-- ---- the demand: while power lasts, after any session
abbrev pub Demand3Powered : Type 0
Demand3Powered = (image : List ℕ) (ms : List Made) → Powered image ms → FindsAgain (now image ms)

-- and at one call more, on any plan, which may be cut at any byte
abbrev pub Demand3Cut : Type 0
Demand3Cut = (image : List ℕ) (ms : List Made) → Powered image ms → (m : Made) → Typed m.call → WakesWith (now image ms) m
