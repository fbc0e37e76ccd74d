-- All that is promised of the calls together, each with its premises: a theorem of this type is `demands` in proofs/Demands.antt.
use Rattle.demands.specs.Demand1.{Demand1Calls, Demand1Asked, Demand1Open}
use Rattle.demands.specs.Demand2.{Demand2}
use Rattle.demands.specs.Demand3.{Demand3Powered, Demand3Cut}
use Rattle.demands.specs.PulledStick.{PulledSpend, PulledSet, PulledOther, PulledSession}
use Rattle.demands.specs.Wear.{CallWears, UnitsToSpare}
use Rattle.demands.specs.Figures.{HealthyWrites, HealthyFormats}
use Rattle.demands.specs.Leaves.{FailureLeaves}

pub record Demands : Type 0 where
  -- 1. "Any flash image, log value and request get an answer"
  pub answers : Demand1Calls
  pub replies : Demand1Asked
  pub opens : Demand1Open
  -- 2. "every answer and every image byte": no contract leaves a choice
  pub determined : Demand2
  -- 3. "While power lasts ..", "If power goes after any byte of a call .."
  pub powered : Demand3Powered
  pub cut : Demand3Cut
  -- the pulled stick
  pub stick_spend : PulledSpend
  pub stick_set : PulledSet
  pub stick_other : PulledOther
  pub stick_session : PulledSession
  -- "limited units fall by exactly their sum"; "with unlimited power the figures are those of a plan with units to spare"
  pub wears : CallWears
  pub spare : UnitsToSpare
  -- "A healthy append reports 16 and 0; a healthy commit of r records 16 × (r + 1) and 4,096"
  pub writes : HealthyWrites
  pub formats : HealthyFormats
  -- what 6 and 7 leave
  pub leaves : FailureLeaves
