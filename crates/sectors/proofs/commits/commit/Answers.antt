-- `sectors::commits::commit` meets its contract.
use Rattle.basics.specs.Answers.{all_done, is_done}
use mathlib.Core.Path.{◌≡◌, refl, sym, ap, ap₂, ◌∙◌}
use mathlib.Core.Bool.{Bool, true}
use mathlib.Core.List.{List}
use Prim.Native.Nat.{ℕ, ◌+◌, ◌*◌, ◌-◌, ◌≤◌}
use native.Mathlib.Omega.{arith}
use lib.ListN.{length, take}
use lib.Seq.{length-take-le}
use Rattle.records.specs.Table.{limit}
use Rattle.records.specs.declared.State.TheVariants.{Active}
use Rattle.codec.specs.declared.Raw.{Raw}
use Rattle.flash.specs.Run.{Flash, Stepped}
use Rattle.sectors.specs.Sectors.{write_sector}
use Rattle.sectors.specs.Commits.{commit_from}
use Rattle.sectors.specs.Shown.{flash_with}
use Rattle.sectors.proofs.ShownLaws.{step_is}
use Rattle.sectors.proofs.SectorsTurns.{after-within, commit-skip, commit-used-up, commit-done, commit-on, commit_end}
use Rattle.sectors.proofs.SectorsCosts.{sector-within}
use Rattle.sectors.proofs.commits.commit.Goals as goal

pub loop-init : goal.loop-init
loop-init c =
    let none : c.args.sectors - 0 ≡ c.args.sectors = omega arith in
    (c.requires.1, omega (arith, c.ranges.next_seq), refl, omega arith, omega arith, λ cut. (cut, rw none))

pub loop-preserved-then-is_avoided : goal.loop-preserved-then-is_avoided
loop-preserved-then-is_avoided c =
    let fewer : c.args.sectors - (c.loop.counter + 1) ≡ c.args.sectors - c.loop.counter - 1 = omega arith in
    let records-of : List Raw = take c.args.count c.args.table in
    let flash-of : Bool → Flash = λ now. flash_with c.loop.image c.loop.u now in
    let a = c.args in (
      rw c.sector_after-s.ensures (after-within a.sectors c.loop.s c.loop.invariant.0),
      c.loop.invariant.1,
      c.loop.invariant.2,
      omega arith,
      omega arith,
      λ cut.
          let now = (c.loop.invariant.5 cut).0 in (
            now,
            rw fewer (ap
                (λ (x : ℕ).
                commit_from (c.args.sectors - c.loop.counter - 1) a.sectors a.avoid x records-of c.loop.answer a.state c.loop.next
                (flash-of now))
                c.sector_after-s.ensures
                ∙ sym (commit-skip (c.args.sectors - c.loop.counter) _ _ _ _ _ _ _ _ (omega (arith, c.loop-test.true)) c.if-is_avoided.true)
                ∙ (c.loop.invariant.5 cut).1),
          ),
    )

pub shape_of-image-then-next : goal.shape_of-image-then-next
shape_of-image-then-next c = c.loop.invariant.2

pub returns-then-next : goal.returns-then-next
returns-then-next c = λ cut.
    rw
    (sym (c.loop.invariant.5 cut).1
    ∙ commit-used-up (c.args.sectors - c.loop.counter) _ _ _ _ _ _ _ _ (omega (arith, c.loop-test.true)) c.if-is_avoided.false c.if-next.true)
    (record { shown = refl; left = refl })

pub write_sector-w-requires : goal.write_sector-w-requires
write_sector-w-requires c =
    let p = c.requires.0 in (
      p.few,
      omega (arith, c.loop.invariant.0, c.loop.invariant.2, p.sized),
      omega (arith, c.loop.invariant.3, p.few, p.slots),
      omega (arith, c.loop.invariant.4, p.erases),
    )

pub shape_of-image-then-is_ok : goal.shape_of-image-then-is_ok
shape_of-image-then-is_ok c = c.write_sector-w.auto.image ∙ c.loop.invariant.2

pub returns-then-is_ok : goal.returns-then-is_ok
returns-then-is_ok c =
    let records-of : List Raw = take c.args.count c.args.table in
    let records-long : length records-of ≡ c.args.count = length-take-le c.args.count c.args.table
    (omega (arith, c.requires.0.few, c.well_formed.1.1.1.1.1.1.0.1.0.1)) in
    let flash-of : Bool → Flash = λ now. flash_with c.loop.image c.loop.u now in
    let turn : Bool → Stepped = λ now. write_sector c.loop.s c.loop.next records-of (flash-of now) in
    let turn_is : (now : Bool) → turn now
    ≡ record {
      answer = c.write_sector-w.result.answer;
      flash = flash_with c.write_sector-w.new.image c.write_sector-w.result.used
          (turn now).flash.cut;
    } = λ now. step_is (turn now) c.write_sector-w.result c.write_sector-w.new.image (c.write_sector-w.ensures now) in
    let answer-is : (now : Bool) → is_done (turn now).answer ≡ c.is_ok.result =
    λ now. ap (λ (o : Stepped). is_done o.answer) (turn_is now) ∙ sym c.is_ok.ensures.value in
    λ cut.
    let l = c in
    let now = (l.loop.invariant.5 cut).0 in
    let done = answer-is now ∙ c.if-is_ok.true in
    let came =
    commit-done (c.args.sectors - c.loop.counter) _ _ _ _ _ _ _ _ (omega (arith, c.loop-test.true)) c.if-is_avoided.false c.if-next.false done
    ∙ ap₂
    (λ (n : ℕ) (o : Stepped).
    record { answer = all_done; state = Active l.loop.s l.loop.next (n + 1); next = l.loop.next + 1; flash = o.flash })
    records-long (turn_is now) in
    rw (sym (l.loop.invariant.5 cut).1 ∙ came) (record { shown = refl; left = refl })

pub loop-preserved : goal.loop-preserved
loop-preserved c =
    let fewer : c.args.sectors - (c.loop.counter + 1) ≡ c.args.sectors - c.loop.counter - 1 = omega arith in
    let records-of : List Raw = take c.args.count c.args.table in
    let records-long : length records-of ≡ c.args.count = length-take-le c.args.count c.args.table
    (omega (arith, c.requires.0.few, c.well_formed.1.1.1.1.1.1.0.1.0.1)) in
    let flash-of : Bool → Flash = λ now. flash_with c.loop.image c.loop.u now in
    let turn : Bool → Stepped = λ now. write_sector c.loop.s c.loop.next records-of (flash-of now) in
    let turn_is : (now : Bool) → turn now
    ≡ record {
      answer = c.write_sector-w.result.answer;
      flash = flash_with c.write_sector-w.new.image c.write_sector-w.result.used
          (turn now).flash.cut;
    } = λ now. step_is (turn now) c.write_sector-w.result c.write_sector-w.new.image (c.write_sector-w.ensures now) in
    let answer-is : (now : Bool) → is_done (turn now).answer ≡ c.is_ok.result =
    λ now. ap (λ (o : Stepped). is_done o.answer) (turn_is now) ∙ sym c.is_ok.ensures.value in
    let cheap : let l = c in (c.write_sector-w.result.used.programmed ≤ l.loop.u.programmed + 16 * (limit + 1))
    × (c.write_sector-w.result.used.erased ≤ l.loop.u.erased + 4096) = let l = c in
    let most = sector-within l.loop.s l.loop.next records-of (flash-of true) in (
      omega (arith, most.programmed, records-long, l.requires.0.few, ap (λ (o : Stepped). o.flash.programmed) (turn_is true)),
      omega (arith, most.erased, ap (λ (o : Stepped). o.flash.erased) (turn_is true)),
    ) in
    let l = c in
    let a = l.args in (
      rw c.sector_after-s.ensures (after-within a.sectors l.loop.s l.loop.invariant.0),
      omega (arith, l.loop.invariant.1, c.if-next.false),
      c.write_sector-w.auto.image ∙ l.loop.invariant.2,
      omega (arith, cheap.0, l.loop.invariant.3, c.loop-test.true),
      omega (arith, cheap.1, l.loop.invariant.4, c.loop-test.true),
      λ cut.
          let now = (l.loop.invariant.5 cut).0 in
          let failed = answer-is now ∙ c.if-is_ok.false in (
            (turn now).flash.cut,
            rw fewer (ap₂
                (λ (x : ℕ) (o : Stepped).
                commit_from (c.args.sectors - c.loop.counter - 1) a.sectors a.avoid x records-of o.answer a.state (l.loop.next + 1)
                o.flash)
                c.sector_after-s.ensures (sym (turn_is now))
                ∙ sym (commit-on (c.args.sectors - c.loop.counter) _ _ _ _ _ _ _ _ (omega (arith, c.loop-test.true)) c.if-is_avoided.false c.if-next.false failed)
                ∙ (l.loop.invariant.5 cut).1),
          ),
    )

pub shape_of-image : goal.shape_of-image
shape_of-image c = c.loop.invariant.2

pub returns : goal.returns
returns c = λ cut.
    rw
    (sym (c.loop.invariant.5 cut).1
    ∙ commit_end (c.args.sectors - c.loop.counter) _ _ _ _ _ _ _ _ (omega (arith, c.loop-test.false)))
    (record { shown = refl; left = refl })
