-- `sectors::appends::try_slots` meets its contract.
use Rattle.basics.specs.Answers.{all_done, is_done}
use mathlib.Core.Path.{◌≡◌, refl, sym, ap, ◌∙◌}
use mathlib.Core.Bool.{Bool, true, false}
use Prim.Native.Nat.{◌+◌, ◌-◌, ◌≤◌}
use native.Mathlib.Omega.{arith}
use Rattle.flash.specs.Run.{Flash, Stepped, program}
use Rattle.sectors.specs.Appends.{tries_from}
use Rattle.sectors.specs.Shown.{flash_with}
use Rattle.sectors.proofs.ShownLaws.{step_is}
use Rattle.sectors.proofs.SectorsTurns.{tries_end, tries-full, tries-done, tries-on}
use Rattle.sectors.proofs.SectorsCosts.{program-within}
use Rattle.sectors.proofs.appends.try_slots.Goals as goal

pub loop-init : goal.loop-init
loop-init c = (c.requires.0, refl, omega arith, λ cut. (cut, refl))

pub shape_of-image-then-is_full : goal.shape_of-image-then-is_full
shape_of-image-then-is_full c = c.loop.invariant.1

pub returns-then-is_full : goal.returns-then-is_full
returns-then-is_full c = λ cut.
    rw
    (sym (c.loop.invariant.3 cut).1
    ∙ tries-full (3 - c.loop.counter) _ _ _ _ _ (omega (arith, c.loop-test.true)) c.if-is_full.true)
    (record { shown = refl; left = refl })

pub shape_of-image-then-is_ok : goal.shape_of-image-then-is_ok
shape_of-image-then-is_ok c = c.program-s.auto.image ∙ c.loop.invariant.1

pub returns-then-is_ok : goal.returns-then-is_ok
returns-then-is_ok c =
    let flash-of : Bool → Flash = λ now. flash_with c.loop.image c.loop.u now in
    let turn : Bool → Stepped = λ now. program c.args.sector c.loop.h c.args.bytes (flash-of now) in
    let turn_is : (now : Bool) → turn now
    ≡ record { answer = c.program-s.result.answer; flash = flash_with c.program-s.new.image c.program-s.result.used (turn now).flash.cut } = λ now.
    step_is (turn now) c.program-s.result c.program-s.new.image (c.program-s.ensures now) in
    let answer-is : (now : Bool) → is_done (turn now).answer ≡ c.is_ok.result =
    λ now. ap (λ (o : Stepped). is_done o.answer) (turn_is now) ∙ sym c.is_ok.ensures.value in
    λ cut.
    let now = (c.loop.invariant.3 cut).0 in
    let done = answer-is now ∙ c.if-is_ok.true in
    let came =
    tries-done (3 - c.loop.counter) _ _ _ _ _ (omega (arith, c.loop-test.true)) c.if-is_full.false done
    ∙ ap (λ (o : Stepped). record { full = false; answer = all_done; head = c.loop.h + 1; flash = o.flash }) (turn_is now) in
    rw (sym (c.loop.invariant.3 cut).1 ∙ came) (record { shown = refl; left = refl })

pub loop-preserved : goal.loop-preserved
loop-preserved c =
    let fewer : 3 - (c.loop.counter + 1) ≡ 3 - c.loop.counter - 1 = omega arith in
    let flash-of : Bool → Flash = λ now. flash_with c.loop.image c.loop.u now in
    let turn : Bool → Stepped = λ now. program c.args.sector c.loop.h c.args.bytes (flash-of now) in
    let turn_is : (now : Bool) → turn now
    ≡ record { answer = c.program-s.result.answer; flash = flash_with c.program-s.new.image c.program-s.result.used (turn now).flash.cut } = λ now.
    step_is (turn now) c.program-s.result c.program-s.new.image (c.program-s.ensures now) in
    let answer-is : (now : Bool) → is_done (turn now).answer ≡ c.is_ok.result =
    λ now. ap (λ (o : Stepped). is_done o.answer) (turn_is now) ∙ sym c.is_ok.ensures.value in
    let cheap : c.program-s.result.used.programmed ≤ c.loop.u.programmed + 16 =
    let most = program-within c.args.sector c.loop.h c.args.bytes (flash-of true) in
    omega (arith, most.programmed, ap (λ (o : Stepped). o.flash.programmed) (turn_is true)) in
    let a = c.args in (
      omega (arith, c.loop.invariant.0, c.if-is_full.false),
      c.program-s.auto.image ∙ c.loop.invariant.1,
      omega (arith, cheap, c.loop.invariant.2, c.loop-test.true),
      λ cut.
          let now = (c.loop.invariant.3 cut).0 in
          let failed = answer-is now ∙ c.if-is_ok.false in (
            (turn now).flash.cut,
            rw fewer (ap (λ (o : Stepped). tries_from (3 - c.loop.counter - 1) a.sector (c.loop.h + 1) a.bytes o.answer o.flash) (sym (turn_is now))
                ∙ sym (tries-on (3 - c.loop.counter) _ _ _ _ _ (omega (arith, c.loop-test.true)) c.if-is_full.false failed)
                ∙ (c.loop.invariant.3 cut).1),
          ),
    )

pub shape_of-image : goal.shape_of-image
shape_of-image c = c.loop.invariant.1

pub returns : goal.returns
returns c = λ cut.
    rw
    (sym (c.loop.invariant.3 cut).1
    ∙ tries_end (3 - c.loop.counter) _ _ _ _ _ (omega (arith, c.loop-test.false)))
    (record { shown = refl; left = refl })
