-- Numbers within their limits.
use Rattle.std.specs.Prelude.{List, ℕ, ◌≤◌, get_or, Option, IfSome}

-- no number is above its limit
abbrev pub Within : List ℕ → List ℕ → Type 0
Within xs most = (i : ℕ) → get_or xs i 0 ≤ get_or most i 0

-- of a number that may have been taken, with the place behind it
abbrev pub NumberWithin : Option (ℕ × ℕ) → ℕ → Type 0
NumberWithin taken most = IfSome taken (λ (t : ℕ × ℕ). t.0 ≤ most)

-- of numbers that may have been taken, with the place behind them
abbrev pub TakenWithin : Option (List ℕ × ℕ) → List ℕ → Type 0
TakenWithin taken most = IfSome taken (λ (t : List ℕ × ℕ). Within t.0 most)

-- of numbers that may have been taken
abbrev pub AllWithin : Option (List ℕ) → List ℕ → Type 0
AllWithin taken most = IfSome taken (λ (xs : List ℕ). Within xs most)
