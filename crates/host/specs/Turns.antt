-- "Run down in place, call after call": two requests in turn on one plan. A PIN attempt is such a turn: "Number a local change .. durably on
-- flash before this returns, so the change it numbers can only follow it", and the try, "before its credential is compared".
use Rattle.std.specs.Prelude.{◌≡◌, List, ℕ}
use Rattle.flash.specs.declared.Plan.{Plan}
use Rattle.records.specs.declared.Log.{Log}
use Rattle.decisions.specs.Outcomes.{Outcome, done_of}
use Rattle.host.specs.declared.requests.Kind.TheVariants.{AdvanceLamport, Spend}
use Rattle.host.specs.declared.requests.Request.{Request}
use Rattle.host.specs.declared.turns.InTurn.{InTurn}
use Rattle.host.specs.Requests.{request_of, requested}

-- a request on what another left
abbrev pub afterwards : Outcome → Request → Outcome
afterwards o r = requested r o.flash.image o.log o.flash.plan

-- an answer and an image that show both, one after the other
pub record ShowsInTurn (one two : Outcome) (r : InTurn) (image : List ℕ) : Type 0 where
  pub answered : r ≡ record { first = done_of one; second = done_of two }
  pub left : image ≡ two.flash.image

abbrev pub InTurnOf : Request → Request → List ℕ → Log → Plan → InTurn → List ℕ → Type 0
InTurnOf first second image log plan = ShowsInTurn (requested first image log plan) (afterwards (requested first image log plan) second)

-- the number, then the try
abbrev pub AttemptOf : ℕ → ℕ → ℕ → List ℕ → Log → Plan → InTurn → List ℕ → Type 0
AttemptOf credential current latest = InTurnOf (request_of (AdvanceLamport latest)) (request_of (Spend credential current))
