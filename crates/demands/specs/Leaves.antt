-- "6 WriteError, 7 EraseError: table and active sector number unchanged, active sector's bytes too except slots tried".
use Rattle.std.specs.Prelude.{◌≡◌, false, List, ◌⊎◌, ℕ, ◌≤◌, ◌<◌}
use Rattle.basics.specs.Answers.{is_done}
use Rattle.flash.specs.declared.Plan.{Plan}
use Rattle.flash.specs.Image.{slot_count, slot_at}
use Rattle.records.specs.declared.State.TheVariants.{Active}
use Rattle.records.specs.declared.Log.{Log}
use Rattle.records.specs.Logs.{records_of}
use Rattle.decisions.specs.Outcomes.{Outcome}
use Rattle.demands.specs.Seen.{seen}
use Rattle.demands.specs.Calls.{Call, NoEffect, outcome_of}

-- the active sector keeps its number and sequence number; the slots tried lie from the head of before up to the head of now
pub record Spares (s seq head : ℕ) (image : List ℕ) (o : Outcome) : Type 0 where
  pub head-now : ℕ
  pub state-is : o.log.state ≡ Active s seq head-now
  pub bytes : (i : ℕ) → i < slot_count → (i < head) ⊎ (head-now ≤ i) → slot_at o.flash.image s i ≡ slot_at image s i

-- what a call that failed leaves of an image and a log
pub record Leaves (c : Call) (image : List ℕ) (log : Log) (o : Outcome) : Type 0 where
  pub table : records_of o.log ≡ records_of log
  -- an Unformatted log stays Unformatted, a Failed one Failed; "but an anchor's own format may stand", as an empty log
  pub left : NoEffect c log (seen o.log)
  pub sector : (s seq head : ℕ) → log.state ≡ Active s seq head → Spares s seq head image o

-- ---- the statement: of every call that doesn't answer 0, on any image, log and plan
abbrev pub FailureLeaves : Type 0
FailureLeaves =
    (c : Call) (image : List ℕ) (log : Log) (plan : Plan) → is_done (outcome_of c image log plan).answer ≡ false
    → Leaves c image log (outcome_of c image log plan)
