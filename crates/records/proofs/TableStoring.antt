-- A record stored at the place of its key makes the table with that record joined.
use mathlib.Core.Path.{◌≡◌, refl, sym, ap, ◌∙◌}
use mathlib.Core.Bool.{Bool, true, false}
use mathlib.Core.List.{List, [], ◌∷◌}
use Prim.Native.Nat.{ℕ, ◌+◌, ◌≤◌, ◌<◌}
use native.Mathlib.Omega.{arith}
use lib.Dec.{eqb}
use lib.ListN.{length, set, length-set, length-append}
use borrow.Author.Tests.{eqb-true, eqb-false}
use Rattle.basics.specs.Choice.{pick}
use Rattle.basics.proofs.ChoiceLaws.{by_test}
use Rattle.codec.specs.declared.Raw.{Raw}
use Rattle.records.specs.Table.{limit, place_of, joined, new_count}
use Rattle.records.specs.Logs.{places}
use Rattle.records.proofs.TableFinding.{place-most}
use Rattle.records.proofs.TableJoining.{join_held, join_new}
use Rattle.records.proofs.LogsPlaces.{places-set, places-add}

module _ (r : Raw) (t : List Raw) where
  abbrev at : ℕ
  at = place_of r.tag r.id t

  -- its places and its count
  pub stored : at < limit → (set (places t) at r ≡ places (joined r t)) × (new_count (length t) at ≡ length (joined r t))
  stored free = go (eqb at (length t)) refl
    where
      most : place_of r.tag r.id t ≤ length t
      most = place-most r.tag r.id t

      go : (b : Bool) → eqb (place_of r.tag r.id t) (length t) ≡ b
          → (set (places t) (place_of r.tag r.id t) r ≡ places (joined r t)) × (pick b (length t + 1) (length t) ≡ length (joined r t))
      go true e =
          let new = eqb-true (place_of r.tag r.id t) (length t) e in
          let j = join_new r t new in (
            ap (λ (k : ℕ). set (places t) k r) new ∙ places-add t r (omega (arith, free, new)) ∙ ap places (sym j),
            sym (ap length j ∙ length-append t (r ∷ [])),
          )
      go false e =
          let other = eqb-false (place_of r.tag r.id t) (length t) e in
          let h : place_of r.tag r.id t < length t = omega (arith, other, most) in
          let j = join_held r t h in
          (places-set t (place_of r.tag r.id t) r h ∙ ap places (sym j), sym (ap length j ∙ length-set t (place_of r.tag r.id t) r))

pub new-most : (count at : ℕ) → count ≤ limit → at < limit → new_count count at ≤ limit
new-most count at few free =
    by_test (λ (n : ℕ). n ≤ limit) (eqb at count) (count + 1) count (λ e. omega (arith, eqb-true at count e, free)) (λ e. few)

pub new_count_most : (count at : ℕ) → new_count count at ≤ count + 1
new_count_most count at = by_test (λ (n : ℕ). n ≤ count + 1) (eqb at count) (count + 1) count (λ e. omega arith) (λ e. omega arith)
