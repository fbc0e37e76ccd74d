-- Wear: "Each call also reports bytes programmed and bytes erased; limited units fall by exactly their sum." "Any call: at most 8,000 and 65,536."
use Rattle.std.specs.Prelude.{◌≡◌, true, false, List, ℕ, ◌+◌, ◌%◌, ◌≤◌, IfSome}
use Rattle.codec.specs.Slots.{slot_size}
use Rattle.flash.specs.declared.Plan.{Plan}
use Rattle.flash.specs.Image.{sector_size, largest}
use Rattle.flash.specs.Power.{is_limited, units_in}
use Rattle.records.specs.declared.Log.{Log}
use Rattle.decisions.specs.Outcomes.{Outcome}
use Rattle.demands.specs.Healthy.{unlimited}
use Rattle.demands.specs.Calls.{Call, outcome_of}

-- what a call that was made on this plan comes to
pub record Wears (plan : Plan) (o : Outcome) : Type 0 where
  pub limited : is_limited o.flash.plan ≡ is_limited plan
  pub units : is_limited plan ≡ true → units_in o.flash.plan + (o.flash.programmed + o.flash.erased) ≡ units_in plan
  pub programmed : o.flash.programmed ≤ 8000
  pub erased : o.flash.erased ≤ largest
  -- so a plan with these units, or without a limit, lasts through any call
  pub lasts : is_limited plan ≡ false → o.flash.cut ≡ false
  pub spare : IfSome plan.units (λ units. 8000 + largest ≤ units) → o.flash.cut ≡ false
  -- what an observer can see of a cut: one that was cut had limited units and left none
  pub cut-limited : o.flash.cut ≡ true → is_limited plan ≡ true
  pub cut-spent : o.flash.cut ≡ true → units_in o.flash.plan ≡ 0
  -- and one that was not cut programmed and erased all that it began: whole slots, and whole sectors
  pub whole-slots : o.flash.cut ≡ false → o.flash.programmed % slot_size ≡ 0
  pub whole-sectors : o.flash.cut ≡ false → o.flash.erased % sector_size ≡ 0

-- "with unlimited power the figures are those of a plan with units to spare": everything but the plan
pub record Alike (a b : Outcome) : Type 0 where
  pub answer : a.answer ≡ b.answer
  pub value : a.value ≡ b.value
  pub log : a.log ≡ b.log
  pub image : a.flash.image ≡ b.flash.image
  pub programmed : a.flash.programmed ≡ b.flash.programmed
  pub erased : a.flash.erased ≡ b.flash.erased

-- ---- the statements: of every call, on any image, log and plan
abbrev pub CallWears : Type 0
CallWears = (c : Call) (image : List ℕ) (log : Log) (plan : Plan) → Wears plan (outcome_of c image log plan)

abbrev pub UnitsToSpare : Type 0
UnitsToSpare =
    (c : Call) (image : List ℕ) (log : Log) (plan : Plan) → IfSome plan.units (λ units. 8000 + largest ≤ units)
    → Alike (outcome_of c image log (unlimited plan)) (outcome_of c image log plan)
