-- `counter_log::anchors::put_anchor` meets its contract.
use mathlib.Core.Path.{◌≡◌, refl, sym, ap, ap₂, subst, ◌∙◌}
use mathlib.Core.Bool.{Bool, true, false, ◌&&◌, false≢true}
use mathlib.Core.List.{[]}
use Prim.Native.Nat.{ℕ, ◌<◌}
use native.Mathlib.Omega.{arith}
use lib.ListN.{length}
use Rattle.std.proofs.Common.{rules}
use Rattle.std.specs.Prelude.{Option, Result, Ok, Err, is_ok}
use Rattle.basics.specs.declared.Refusal.{Refusal}
use Rattle.ids.specs.Ids.{anchor_tag}
use Rattle.codec.specs.declared.Raw.{Raw}
use Rattle.flash.specs.Image.{sectors_in}
use Rattle.records.proofs.LogsOwned.{whole-log}
use Rattle.sectors.specs.declared.Used.{Used}
use Rattle.sectors.specs.Shown.{flash_with}
use Rattle.reads.specs.declared.Entry.{Entry}
use Rattle.reads.specs.Entering.{entry_of}
use Rattle.reads.proofs.EnteringLaws.{let_in_by, entry-let_in}
use Rattle.decisions.specs.Decisions.{anchor_decision}
use Rattle.decisions.proofs.DecisionsKeyed.{anchor-keyed}
use Rattle.decisions.specs.Outcomes.{Outcome, ShowsDone}
use Rattle.decisions.specs.Performing.{formatted}
use Rattle.decisions.proofs.OutcomesCalls.{in_room, Steps, call-ready, call_meets}
use Rattle.counter_log.specs.Calls.{anchored_first, put_anchor_of}
use Rattle.counter_log.specs.FirstAnchor.{opens_log}
use Rattle.counter_log.proofs.CallsAnchor.{opened, as_first, as_call}
use Rattle.counter_log.proofs.anchors.put_anchor.Goals as goal
use Rattle.counter_log.proofs.anchors.put_anchor.Goals.{After-enter-entry, After-is_ok, After-map-decided}
use Rattle.counter_log.proofs.anchors.put_anchor.Goals.{else-is_ok-via-then-is_ok+else-is_first, else-is_ok-via-else-is_ok}

entry_is : (c : After-enter-entry) → entry_of (sectors_in (length c.args.image.now)) c.args.log true anchor_tag 0 ≡ c.enter-entry.result
entry_is c = sym (c.enter-entry.ensures ∙ ap (λ (n : ℕ). entry_of n c.args.log true anchor_tag 0) c.sectors-n.ensures)

-- ---- the first anchor: the call was let in
found : (c : After-is_ok) → c.is_ok.result ≡ true
    → (e : Entry) × (entry_of (sectors_in (length c.args.image.now)) c.args.log true anchor_tag 0 ≡ Ok e)
found c h = go c.enter-entry.result (entry_is (goal.at.After-is_ok c).After-enter-entry) (sym c.is_ok.ensures.value ∙ h)
  where
    go : (x : Result Entry Refusal) → entry_of (sectors_in (length c.args.image.now)) c.args.log true anchor_tag 0 ≡ x → is_ok x ≡ true
        → (e : Entry) × (entry_of (sectors_in (length c.args.image.now)) c.args.log true anchor_tag 0 ≡ Ok e)
    go (Ok e) is t = (e, is)
    go (Err r) is t = absurd (false≢true t)

pub first_anchor-requires : goal.first_anchor-requires
first_anchor-requires c =
    let a = c.args in
    let n = sectors_in (length a.image.now) in
    let e = found (goal.at.first_anchor-requires c).After-is_ok c.if-is_ok.true in
    let h = opened a.log.state a.new (sym c.is_first.ensures ∙ c.if-is_first.true) in
    let some : 0 < n = let z = (let_in_by n a.log true (entry-let_in n a.log true anchor_tag 0 e.0 e.1).0).0 in omega (arith, z) in
    rw (c.sectors-n.ensures, c.unused-used.ensures)
    (record {
      fit = in_room a.image.now a.log a.plan true anchor_tag 0 e.0 e.1;
      blank = h.0;
      some = some;
      programmed = refl;
      erased = refl;
    })

pub returns-then-is_first : goal.returns-then-is_first
returns-then-is_first c =
    let a = c.args in
    let e = found (goal.at.returns-then-is_first c).After-is_ok c.if-is_ok.true in
    let first : (n : ℕ) (used : Used) → Outcome =
    λ (n : ℕ) (used : Used). anchored_first a.new n (formatted [] n a.log (flash_with a.image.now used false)) in
    let same : first c.sectors-n.result c.unused-used.result ≡ put_anchor_of a.image.now a.log a.plan a.new =
    (λ i. first (c.sectors-n.ensures i) (c.unused-used.ensures i))
    ∙ sym (as_first a.image.now a.log a.plan a.new e.0 e.1 (sym c.is_first.ensures ∙ c.if-is_first.true)) in
    subst (λ (o : Outcome). ShowsDone o c.first_anchor.result c.first_anchor.new.image) same (c.first_anchor.ensures false)

-- ---- every other anchor
steps : (c : After-map-decided)
    → Steps c.args.image.now c.args.log c.args.plan true anchor_tag 0 (λ (held : Option Raw) (room : Bool). anchor_decision held room c.args.new)
    c.sectors-n.result c.unused-used.result c.map-decided.result
steps c =
    record {
      sure = true;
      entry = c.enter-entry.result;
      counted = c.sectors-n.ensures;
      surely = refl;
      fresh = c.unused-used.ensures;
      entering = c.enter-entry.ensures;
      deciding = search rules;
    }

not-opening : (c : After-map-decided) → (is_ok c.enter-entry.result && opens_log c.args.log.state c.args.new) ≡ false
not-opening c =
    elim c.else-is_ok.branch [
      | else-is_ok-via-then-is_ok+else-is_first w ↦
          ap₂ (λ (x y : Bool). x && y) (sym c.is_ok.ensures.value ∙ w.if-is_ok.true) (sym w.is_first.ensures ∙ w.if-is_first.false)
      | else-is_ok-via-else-is_ok w ↦
          ap (λ (x : Bool). x && opens_log c.args.log.state c.args.new) (sym c.is_ok.ensures.value ∙ w.if-is_ok.false)
    ]

pub perform-requires : goal.perform-requires
perform-requires c =
    let a = c.args in
    call-ready (steps (goal.at.perform-requires c).After-map-decided) (whole-log a.log c.well_formed.1.0) (λ e _. anchor-keyed e.held e.room a.new)

pub returns : goal.returns
returns c =
    let a = c.args in
    let s = (goal.at.returns c).After-map-decided in
    rw (as_call a.image.now a.log a.plan a.new c.enter-entry.result (entry_is (goal.at.returns c).After-enter-entry) (not-opening s))
    (call_meets (steps s) c.perform.result c.perform.new.image c.perform.ensures)
