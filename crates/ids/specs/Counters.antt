-- "Tries": "A counter hands back its next value after a failure or a reset."
use Rattle.std.specs.Prelude.{ℕ, ◌+◌, ◌-◌, eqb, ltb, Result, Ok, Err}
use Rattle.basics.specs.Choice.{pick}
use Rattle.basics.specs.Says.{Says, says_refused, says_held}
use Rattle.basics.specs.declared.Refusal.{Refusal}
use Rattle.basics.specs.declared.Refusal.TheVariants.{WriteError}
use Rattle.ids.specs.declared.CounterState.{CounterState}

-- a credential that nobody has tried yet
abbrev pub fresh_of : ℕ → CounterState
fresh_of n = record { total = 0; at_reset = 0; allowance = n }

-- "Remaining is 0 if total is below at-reset, else allowance − (total − at-reset), not below 0" (a difference of ℕ is never below 0)
unfoldable pub remaining_of : CounterState → ℕ
remaining_of s = pick (ltb s.total s.at_reset) 0 (s.allowance - (s.total - s.at_reset))

-- after a failure the total is one more; "total 4,294,967,295 gives 6"
abbrev pub total_max : ℕ
total_max = 4_294_967_295

abbrev pub one_more : CounterState → CounterState
one_more s = record { total = s.total + 1; at_reset = s.at_reset; allowance = s.allowance }

unfoldable pub failed_of : CounterState → Result CounterState Refusal
failed_of s = pick (eqb s.total total_max) (Err WriteError) (Ok (one_more s))

-- in the paper's numbers: what a failure comes to
unfoldable pub failed_says : CounterState → Says CounterState
failed_says s = pick (eqb s.total total_max) (says_refused 6) (says_held (one_more s))

-- after a reset: "at-reset becomes total and the allowance that number"
abbrev pub reset_of : CounterState → ℕ → CounterState
reset_of s n = record { total = s.total; at_reset = s.total; allowance = n }
