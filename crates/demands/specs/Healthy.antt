-- "a flash that refuses nothing"
use Rattle.std.specs.Prelude.{◌≡◌, false, None}
use Rattle.flash.specs.declared.Plan.{Plan}
use Rattle.flash.specs.Power.{is_limited}
use Rattle.flash.specs.Run.{Flash}

pub record Healthy (f : Flash) : Type 0 where
  pub endless : is_limited f.plan ≡ false
  pub erasing : f.plan.refuse_erase ≡ false
  pub willing : f.plan.refuse_programs ≡ 0

abbrev pub healthy : Plan
healthy = record { units = None; refuse_erase = false; refuse_programs = 0 }

-- the same plan without a limit
abbrev pub unlimited : Plan → Plan
unlimited plan = record { units = None; refuse_erase = plan.refuse_erase; refuse_programs = plan.refuse_programs }
