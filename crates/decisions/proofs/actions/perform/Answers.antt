-- `decisions::actions::perform` meets its contract.
use mathlib.Core.Path.{refl, ap, subst}
use Prim.Native.Nat.{ℕ}
use Rattle.std.specs.Prelude.{Result, is_ok}
use Rattle.basics.specs.declared.Refusal.{Refusal}
use Rattle.codec.specs.declared.Raw.{Raw}
use Rattle.sectors.specs.Shown.{flash_with}
use Rattle.decisions.specs.Decisions.{writes_record, record_in}
use Rattle.decisions.specs.declared.Decision.{Decision}
use Rattle.decisions.specs.Ready.{Placed}
use Rattle.decisions.proofs.PerformingLaws.{on-unformatted, on-failed, on-refused, on-given, on-written}
use Rattle.decisions.proofs.actions.perform.Goals as goal

pub returns-in-Unformatted : goal.returns-in-Unformatted
returns-in-Unformatted c =
    λ cut.
    let a = c.args in
    let x = c.in-Ok.x in
    rw (on-unformatted a.decided a.sectors a.log (flash_with a.image.now a.used cut) x.0 x.1 c.in-Ok.is c.in-Unformatted.is)
    (record { answered = c.answered-in-Unformatted.ensures; left = refl })

pub returns-in-Failed : goal.returns-in-Failed
returns-in-Failed c =
    λ cut.
    let a = c.args in
    let x = c.in-Ok.x in
    rw (on-failed a.decided a.sectors a.log (flash_with a.image.now a.used cut) x.0 x.1 c.in-Ok.is c.in-Failed.is)
    (record { answered = c.answered-in-Failed.ensures; left = refl })

pub returns-in-Refuse : goal.returns-in-Refuse
returns-in-Refuse c =
    λ cut.
    let a = c.args in
    let x = c.in-Ok.x in
    let s = c.in-Active in
    let d = c.in-Refuse in
    rw (on-refused a.decided a.sectors a.log (flash_with a.image.now a.used cut) x.0 x.1 c.in-Ok.is s.sector s.seq s.head s.is d.refusal d.is)
    (record { answered = c.answered-in-Refuse.ensures; left = refl })

pub returns-in-Give : goal.returns-in-Give
returns-in-Give c =
    λ cut.
    let a = c.args in
    let x = c.in-Ok.x in
    let s = c.in-Active in
    let d = c.in-Give in
    rw (on-given a.decided a.sectors a.log (flash_with a.image.now a.used cut) x.0 x.1 c.in-Ok.is s.sector s.seq s.head s.is d.value d.is)
    (record { answered = c.answered-in-Give.ensures; left = refl })

-- the log was let in, and the place beside the decision is its record's
pub write_record-requires : goal.write_record-requires
write_record-requires c =
    let x = c.in-Ok.x in
    let d = c.in-Write in
    let placed = c.requires.placed x.0 x.1 c.in-Ok.is (ap writes_record d.is) in (
      c.requires.room (ap (λ (r : Result (ℕ × Decision) Refusal). is_ok r) c.in-Ok.is),
      c.in-Active.is,
      subst (λ (r : Raw). Placed c.args.log x.0 r) (ap record_in d.is) placed,
    )

pub returns : goal.returns
returns c =
    λ cut.
    let a = c.args in
    let x = c.in-Ok.x in
    let s = c.in-Active in
    let d = c.in-Write in
    rw (on-written a.decided a.sectors a.log (flash_with a.image.now a.used cut) x.0 x.1 c.in-Ok.is s.sector s.seq s.head s.is d.rec d.value d.is)
    (c.write_record.ensures cut)
