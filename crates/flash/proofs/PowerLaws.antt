-- Laws of the fault plan: there is power for n bytes, or the units run out before.
use mathlib.Core.Path.{◌≡◌, refl, sym, ◌∙◌}
use mathlib.Core.Bool.{Bool, true, false, false≢true}
use mathlib.Core.Logic.{◌⊎◌, inl, inr}
use Rattle.std.specs.Prelude.{Option, Some, None, is_some, unwrap_or, option_map}
use Prim.Native.Nat.{ℕ, ◌-◌, ◌≤◌, ◌<◌, min}
use native.Mathlib.Nat.{min-eq_left, min-eq_right, le_of_lt, sub_self}
use native.Mathlib.Omega.{arith}
use lib.Dec.{leb}
use borrow.Author.Tests.{leb-true, leb-false}
use Rattle.basics.specs.Choice.{pick}
use Rattle.basics.proofs.ChoiceLaws.{by_test}
use Rattle.flash.specs.declared.Plan.{Plan}
use Rattle.flash.specs.Power.{is_limited, units_in, powered, charged, refuses, to_program, to_erase}

-- there is power for n bytes
abbrev pub Enough : Plan → ℕ → Type 0
Enough plan n = is_limited plan ≡ true → n ≤ units_in plan

-- there is not
abbrev pub Short : Plan → ℕ → Type 0
Short plan n = (is_limited plan ≡ true) × (units_in plan < n)

-- the plan whose units ran out
abbrev pub drained : Plan → Plan
drained plan =
    record {
      units = Some 0;
      refuse_erase = plan.refuse_erase;
      refuse_programs = plan.refuse_programs;
    }

module _ (plan : Plan) (n : ℕ) where
  pub powered-short : Short plan n → powered plan n ≡ units_in plan
  powered-short h = rw (h.0, min-eq_left (le_of_lt h.1))

  pub charged-short : Short plan n → charged plan (powered plan n) ≡ drained plan
  charged-short h = rw (powered-short h) (go plan.units h.0)
    where
      go : (left : Option ℕ) → is_some left ≡ true
          → record {
            units = option_map (λ units. units - unwrap_or left 0) left;
            refuse_erase = plan.refuse_erase;
            refuse_programs = plan.refuse_programs;
          }
          ≡ drained plan
      go (Some units) h = rw sub_self
      go None h = absurd (false≢true h)

  pub powered_enough : Enough plan n → powered plan n ≡ n
  powered_enough h = go (is_limited plan) h
    where
      go : (b : Bool) → (b ≡ true → n ≤ units_in plan) → pick b (min (units_in plan) n) n ≡ n
      go true h = min-eq_right (h refl)
      go false h = refl

  pub enough_or-short : Enough plan n ⊎ Short plan n
  enough_or-short = go (leb n (units_in plan)) refl (is_limited plan) refl
    where
      go : (t : Bool) → leb n (units_in plan) ≡ t → (b : Bool) → is_limited plan ≡ b → Enough plan n ⊎ Short plan n
      go true h b e = inl (λ _. leb-true n (units_in plan) h)
      go false h true e = inr (e, leb-false n (units_in plan) h)
      go false h false e = inl (λ l. absurd (false≢true (sym e ∙ l)))

  pub powered-most : powered plan n ≤ n
  powered-most = go enough_or-short
    where
      go : Enough plan n ⊎ Short plan n → powered plan n ≤ n
      go (inl h) = omega (arith, powered_enough h)
      go (inr h) = omega (arith, powered-short h)

  -- a charge leaves limited power limited, and takes its units
  pub charged-limited : is_limited (charged plan n) ≡ is_limited plan
  charged-limited = go plan.units
    where
      go : (left : Option ℕ) → is_some (option_map (λ units. units - n) left) ≡ is_some left
      go (Some units) = refl
      go None = refl

  pub charged-units : is_limited plan ≡ true → units_in (charged plan n) ≡ units_in plan - n
  charged-units = go plan.units
    where
      go : (left : Option ℕ) → is_some left ≡ true → unwrap_or (option_map (λ units. units - n) left) 0 ≡ unwrap_or left 0 - n
      go (Some units) h = refl
      go None h = absurd (false≢true h)

-- no call changes more bytes than a slot has, or a sector
pub to_program-most : (plan : Plan) → to_program plan ≤ 16
to_program-most plan = by_test (λ (n : ℕ). n ≤ 16) (refuses plan) 0 (powered plan 16) (λ e. omega arith) (λ e. powered-most plan 16)

pub to_erase-most : (plan : Plan) → to_erase plan ≤ 4096
to_erase-most plan = by_test (λ (n : ℕ). n ≤ 4096) plan.refuse_erase 0 (powered plan 4096) (λ e. omega arith) (λ e. powered-most plan 4096)
