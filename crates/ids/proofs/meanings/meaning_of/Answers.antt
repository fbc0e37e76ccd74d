-- The result is the meaning that the same cases of tag and id give.
use mathlib.Core.Path.{ap, sym, ◌∙◌}
use mathlib.Core.Logic.{⊎_elim, inl, inr}
use Prim.Native.Nat.{◌<◌}
use native.Mathlib.Nat.{eq-or-lt_of_le}
use native.Mathlib.Omega.{arith}
use borrow.Author.Tests.{ne_eqb, le-leb, lt-leb}
use Rattle.ids.specs.Ids.{credential_meaning, value_meaning, meaning_of}
use Rattle.ids.proofs.meanings.meaning_of.Goals as goal

pub returns-in-Some : goal.returns-in-Some
unfolding meaning_of
returns-in-Some c =
    rw c.in-82.is
    (ap credential_meaning (sym c.in-Some.is ∙ c.place_of.ensures))

pub returns-in-None : goal.returns-in-None
unfolding meaning_of
returns-in-None c =
    rw c.in-82.is
    (ap credential_meaning (sym c.in-None.is ∙ c.place_of.ensures))

pub returns-in-3 : goal.returns-in-3
unfolding meaning_of value_meaning
returns-in-3 c = rw c.in-76.is (⊎_elim (λ e. rw e) (λ w. ⊎_elim (λ e. rw e) (λ e. rw e) w) c.in-3.is)

pub returns-in_default-id : goal.returns-in_default-id
unfolding meaning_of value_meaning
returns-in_default-id c = rw (c.in-76.is, lt-leb 1 _ c.in_default-id.if-id-lt1-own.true)

pub returns-in_default-id-3 : goal.returns-in_default-id-3
unfolding meaning_of value_meaning
returns-in_default-id-3 c =
    let d = c.args.id in
    let beyond : 8 < d = ⊎_elim (λ e. absurd (c.in_default-id.in_default-own.rest.0.1 (inr (inr (sym e))))) (λ h. h)
    (eq-or-lt_of_le c.in_default-id.if-id-lt8-own.false) in
    rw (c.in-76.is, le-leb 1 d (omega arith), lt-leb d 8 beyond)

pub returns-in-1-to-8 : goal.returns-in-1-to-8
unfolding meaning_of value_meaning
returns-in-1-to-8 c = rw (c.in-76.is, c.in-1-to-8.in-1-to-8-own.keys2)

pub returns-in-1-to-8-2 : goal.returns-in-1-to-8-2
unfolding meaning_of value_meaning
returns-in-1-to-8-2 c =
    let d = c.args.id in
    let held = c.in-1-to-8.in_default-own.rest.0.1 in
    rw (
      c.in-76.is,
      le-leb 1 d (omega arith),
      le-leb d 8 (omega arith),
      ne_eqb d 3 (λ e. held (inl e)),
      ne_eqb d 5 (λ e. held (inr (inl e))),
      ne_eqb d 8 (λ e. held (inr (inr e))),
    )

pub returns-in-0 : goal.returns-in-0
unfolding meaning_of
returns-in-0 c = rw (c.in-65.is, c.in-0.is)

pub returns-in_default-id-2 : goal.returns-in_default-id-2
unfolding meaning_of
returns-in_default-id-2 c = rw (c.in-65.is, ne_eqb _ _ c.in_default-id-2.in_default-id-2-own.rest.1)

pub returns-in_default : goal.returns-in_default
unfolding meaning_of
returns-in_default c = rw (
  ne_eqb _ _ c.in_default.in_default-own.rest.0.0.1,
  ne_eqb _ _ c.in_default.in_default-own.rest.0.1,
  ne_eqb _ _
      c.in_default.in_default-own.rest.1,
)
