-- Which header wins: the fold over the sectors, and what it says of the winner.
use Rattle.std.specs.Prelude.{Option, Some, None}
use mathlib.Core.Path.{◌≡◌, refl, sym, ap, ◌∙◌}
use Prim.Native.Nat.{ℕ, suc, ◌+◌, ◌-◌, ◌≤◌, ◌<◌}
use native.Mathlib.Omega.{arith}
use Rattle.scan.specs.Choosing.{better, best_from}

-- a sector without a header changes nothing
pub better-none : (b : Option (ℕ × ℕ)) (s : ℕ) → better b s None ≡ b
better-none None s = refl
better-none (Some (w, most)) s = refl

-- a loop over the sectors, s of n passed
module _ (headers : ℕ → Option ℕ) (b : Option (ℕ × ℕ)) (n s : ℕ) where
  pub best_end : n ≤ s → best_from (n - s) s headers b ≡ b
  unfolding best_from
  best_end h = let e : n - s ≡ 0 = omega arith in rw e

  pub best_step : s < n → best_from (n - s) s headers b ≡ best_from (n - (s + 1)) (s + 1) headers (better b s (headers s))
  unfolding best_from
  best_step h =
      let e : n - s ≡ suc (n - (s + 1)) = omega arith in
      let f : s + 1 ≡ suc s = omega arith in
      ap (λ (m : ℕ). best_from m s headers b) e ∙ ap (λ (x : ℕ). best_from (n - (s + 1)) x headers (better b s (headers s))) (sym f)
