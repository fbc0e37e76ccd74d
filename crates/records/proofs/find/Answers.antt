-- `records::find` meets its contract.
use mathlib.Core.Path.{◌≡◌, sym, ◌∙◌}
use mathlib.Core.List.{List}
use Prim.Native.Nat.{ℕ}
use native.Mathlib.Nat.{zero-add}
use native.Mathlib.Omega.{arith}
use lib.ListN.{length, take}
use lib.Seq.{length-take-le, get_or-take}
use Rattle.records.proofs.TableFinding.{found_end, found_here, found-past-tag, found-past_id}
use Rattle.records.proofs.find.Goals as goal
use Rattle.records.proofs.find.Goals.{then-tags-i+else-ids-i, else-tags-i}

pub loop-i-init : goal.loop-i-init
loop-i-init c = zero-add _

pub returns-then-ids-i : goal.returns-then-ids-i
returns-then-ids-i c =
    let tags-of : List ℕ = take c.args.count c.args.tags.now in
    let ids-of : List ℕ = take c.args.count c.args.ids.now in
    let tags_long : length tags-of ≡ c.args.count = length-take-le c.args.count c.args.tags.now c.requires.0 in
    let ids_long : length ids-of ≡ c.args.count = length-take-le c.args.count c.args.ids.now c.requires.1 in
    let loop = c.loop-i in
    let a = c.args in
    sym
    (found_here a.tag a.id tags-of ids-of loop.i (omega (arith, tags_long)) (omega (arith, ids_long))
    (get_or-take a.count a.tags.now loop.i 0 (omega arith) ∙ c.if-tags-i.true)
    (get_or-take a.count a.ids.now loop.i 0 (omega arith) ∙ c.if-ids-i.true))
    ∙ loop.invariant

pub loop-i-preserved : goal.loop-i-preserved
loop-i-preserved c =
    let tags-of : List ℕ = take c.args.count c.args.tags.now in
    let ids-of : List ℕ = take c.args.count c.args.ids.now in
    let tags_long : length tags-of ≡ c.args.count = length-take-le c.args.count c.args.tags.now c.requires.0 in
    let ids_long : length ids-of ≡ c.args.count = length-take-le c.args.count c.args.ids.now c.requires.1 in
    let loop = c.loop-i in
    let a = c.args in
    let tag-here = get_or-take a.count a.tags.now loop.i 0 (omega arith) in
    let id-here = get_or-take a.count a.ids.now loop.i 0 (omega arith) in
    elim c.if-tags-i.branch [
      | then-tags-i+else-ids-i w ↦
          sym
          (found-past_id a.tag a.id tags-of ids-of loop.i (omega (arith, tags_long)) (omega (arith, ids_long))
          (tag-here ∙ w.if-tags-i.true) (λ e. w.if-ids-i.false (sym id-here ∙ e)))
      | else-tags-i w ↦
          sym
          (found-past-tag a.tag a.id tags-of ids-of loop.i (omega (arith, tags_long)) (omega (arith, ids_long))
          (λ e. w.if-tags-i.false (sym tag-here ∙ e)))
    ] ∙ loop.invariant

pub returns : goal.returns
returns c =
    let tags-of : List ℕ = take c.args.count c.args.tags.now in
    let ids-of : List ℕ = take c.args.count c.args.ids.now in
    let tags_long : length tags-of ≡ c.args.count = length-take-le c.args.count c.args.tags.now c.requires.0 in
    let loop = c.loop-i in
    let all : loop.i ≡ c.args.count = omega arith in
    sym all ∙ sym (found_end c.args.tag c.args.id tags-of ids-of loop.i (omega (arith, tags_long))) ∙ loop.invariant
