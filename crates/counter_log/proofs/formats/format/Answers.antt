-- `counter_log::formats::format` meets its contract.
use mathlib.Core.Path.{◌≡◌, refl, sym, ap, ap₂, subst, ◌∙◌}
use mathlib.Core.Bool.{Bool, true, false}
use mathlib.Core.List.{List}
use Prim.Native.Nat.{ℕ, ◌<◌}
use native.Mathlib.Omega.{arith}
use lib.ListN.{length, take}
use Rattle.std.specs.Prelude.{Result, Ok, Err}
use Rattle.basics.specs.declared.Refusal.{Refusal}
use Rattle.basics.specs.declared.Refusal.TheVariants.{WriteError}
use Rattle.ids.specs.Ids.{counter_tag}
use Rattle.codec.specs.declared.Raw.{Raw}
use Rattle.flash.specs.Image.{sectors_in}
use Rattle.flash.specs.Run.{Flash}
use Rattle.records.specs.declared.State.{State}
use Rattle.records.specs.declared.Log.{Log}
use Rattle.records.proofs.LogsPlaces.{places-take}
use Rattle.decisions.specs.declared.seeds.Seeded.{Seeded}
use Rattle.decisions.specs.Seeds.{seeds_known, seed_table}
use Rattle.sectors.specs.declared.Used.{Used}
use Rattle.sectors.specs.Shown.{flash_with}
use Rattle.reads.specs.declared.Entry.{Entry}
use Rattle.reads.specs.Entering.{entry_of}
use Rattle.reads.proofs.EnteringLaws.{let_in_by, entry-let_in}
use Rattle.decisions.specs.Outcomes.{Outcome, ShowsDone, flash_of}
use Rattle.decisions.specs.Performing.{formatted}
use Rattle.decisions.specs.Ready.{answered_of}
use Rattle.decisions.proofs.OutcomesCalls.{entered_in, in_room, call_refused}
use Rattle.counter_log.specs.Calls.{format_on, format_of}
use Rattle.counter_log.proofs.CallsFormat.{known-few, table-most, filled}
use Rattle.counter_log.proofs.formats.format.Goals as goal
use Rattle.counter_log.proofs.formats.format.Goals.{After-enter, In_default}

abbrev call : (c : After-enter) → ℕ → Log → Flash → Outcome
call c n l f = format_on l.state (seed_table c.args.seeds c.args.count) n l f

entry_is : (c : After-enter) (x : Result Entry Refusal) → c.enter.result ≡ x
    → entry_of (sectors_in (length c.args.image.now)) c.args.log (seeds_known c.args.seeds c.args.count) counter_tag 0 ≡ x
entry_is c x e =
    let a = c.args in
    sym (c.enter.ensures ∙ ap₂ (λ (n : ℕ) (known : Bool). entry_of n a.log known counter_tag 0) c.sectors-n.ensures c.seeds_known-known.ensures) ∙ e

pub returns-in-Err : goal.returns-in-Err
unfolding format_of
returns-in-Err c =
    let a = c.args in
    let start = (goal.at.returns-in-Err c).After-enter in
    rw c.answered.ensures
    (call_refused a.image.now a.log a.plan (seeds_known a.seeds a.count) counter_tag 0 (call start) c.in-Err.refusal c.unused-used.result
    (entry_is start _ c.in-Err.is) c.unused-used.ensures)

-- ---- a call that was let in
found : (c : In_default) → (e : Entry)
    × (entry_of (sectors_in (length c.args.image.now)) c.args.log (seeds_known c.args.seeds c.args.count) counter_tag 0 ≡ Ok e)
found c = (c.in_default.field-0, entry_is (goal.at.In_default c).After-enter _ c.in_default.is)

tests : (c : In_default) → (sectors_in (length c.args.image.now) ≡ 0 → ⊥) × (seeds_known c.args.seeds c.args.count ≡ true)
tests c =
    let a = c.args in
    let n = sectors_in (length a.image.now) in
    let e = found c in
    let p = let_in_by n a.log (seeds_known a.seeds a.count) (entry-let_in n a.log (seeds_known a.seeds a.count) counter_tag 0 e.0 e.1).0 in
    (p.0, p.2)

-- by the state of the log
state_says : (c : In_default) (s : State) → c.args.log.state ≡ s
    → format_of c.args.image.now c.args.log c.args.plan c.args.seeds c.args.count
    ≡ format_on s (seed_table c.args.seeds c.args.count) (sectors_in (length c.args.image.now)) c.args.log (flash_of c.args.image.now c.args.plan)
unfolding format_of
state_says c s h =
    let a = c.args in
    let e = found c in
    entered_in a.image.now a.log a.plan (seeds_known a.seeds a.count) counter_tag 0 e.0 e.1 (call (goal.at.In_default c).After-enter)
    ∙ ap (λ (x : State). format_on x (seed_table a.seeds a.count) (sectors_in (length a.image.now)) a.log (flash_of a.image.now a.plan)) h

pub seed_table-t-requires : goal.seed_table-t-requires
seed_table-t-requires c = let a = c.args in known-few a.seeds a.count (tests (goal.at.seed_table-t-requires c).In_default).1

pub format_with-requires : goal.format_with-requires
format_with-requires c =
    let a = c.args in
    let in_ = (goal.at.format_with-requires c).In_default in
    let e = found in_ in
    let n = sectors_in (length a.image.now) in
    let some : 0 < n = let z = (tests in_).0 in omega (arith, z) in
    let full = filled (seed_table a.seeds a.count) (table-most a.seeds a.count (known-few a.seeds a.count (tests in_).1)) in
    rw (c.sectors-n.ensures, c.unused-used.ensures, c.seed_table-t.ensures) (
      in_room a.image.now a.log a.plan (seeds_known a.seeds a.count) counter_tag 0 e.0 e.1,
      c.in-Unformatted.is,
      some,
      full,
    )

pub returns-in-Unformatted : goal.returns-in-Unformatted
returns-in-Unformatted c =
    let a = c.args in
    let made : (n : ℕ) (used : Used) (x : Seeded) → Outcome =
    λ (n : ℕ) (used : Used) (x : Seeded). formatted (take x.count x.table) n a.log (flash_with a.image.now used false) in
    let same : made c.sectors-n.result c.unused-used.result c.seed_table-t.result ≡ format_of a.image.now a.log
    a.plan a.seeds a.count =
    (λ i. made (c.sectors-n.ensures i) (c.unused-used.ensures i) (c.seed_table-t.ensures i))
    ∙ ap (λ (x : List Raw). formatted x (sectors_in (length a.image.now)) a.log (flash_of a.image.now a.plan))
    (places-take (seed_table a.seeds a.count))
    ∙ sym (state_says (goal.at.returns-in-Unformatted c).In_default _ c.in-Unformatted.is) in
    subst (λ (o : Outcome). ShowsDone o c.format_with.result c.format_with.new.image) same (c.format_with.ensures false)

pub returns-in-Failed : goal.returns-in-Failed
returns-in-Failed c =
    let a = c.args in
    rw (state_says (goal.at.returns-in-Failed c).In_default _ c.in-Failed.is)
    (record { answered = c.answered-in-Failed.ensures ∙ ap (answered_of (Err WriteError) a.log) c.unused-used.ensures; left = refl })

pub returns-in-Active : goal.returns-in-Active
returns-in-Active c =
    let a = c.args in
    rw (state_says (goal.at.returns-in-Active c).In_default _ c.in-Active.is)
    (record { answered = c.answered-in-Active.ensures ∙ ap (answered_of (Err WriteError) a.log) c.unused-used.ensures; left = refl })
