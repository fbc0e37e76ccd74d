-- The records passed fit, the marks and the two lists stand for their keys, and the place and record are those of the key among them.
use mathlib.Core.Path.{◌≡◌, refl, sym}
use mathlib.Core.List.{List}
use mathlib.Core.Bool.{false}
use Prim.Native.Nat.{◌<◌}
use native.Mathlib.Omega.{arith}
use lib.ListN.{length, get_or, take}
use lib.Seq.{get_or-take, length-take-le}
use borrow.Author.Tests.{eq-eqb, ne_eqb}
use Rattle.codec.specs.declared.Raw.{Raw}
use Rattle.std.specs.Prelude.{None}
use Rattle.records.specs.Table.{has_key, holds}
use Rattle.records.proofs.TableJoining.{nowhere}
use Rattle.records.proofs.SurveysLaws.{start, is-met, not-met, finish, blank, twice, hit, miss}
use Rattle.records.proofs.survey.survey.Goals as goal
use Rattle.records.proofs.survey.survey.Goals.{then-met-mark-ne0+else-is_twice, else-met-mark-ne0, then-r-tag+then-r-id, else-r-tag}
use Rattle.records.proofs.survey.survey.Goals.{else-r-tag-via-then-r-tag+else-r-id, else-r-tag-via-else-r-tag}

pub loop-i-init : goal.loop-i-init
loop-i-init c =
    let a = c.args in
    let size = length-take-le a.count a.table (omega (arith, c.well_formed.0.1.0.1)) in
    (size, start a.tag a.id (take a.count a.table) a.count None (omega (arith, size)) (sym size) refl)

pub returns-then-r : goal.returns-then-r
returns-then-r c =
    let records-of : List Raw = take c.args.count c.args.table in
    let record_read : Raw = get_or c.args.table c.loop-i.i nowhere in
    let more : c.loop-i.i < length records-of = omega arith in
    let here : get_or records-of c.loop-i.i nowhere ≡ record_read = let a = c.args in get_or-take a.count a.table c.loop-i.i nowhere c.loop-i-test.true in
    blank c.loop-i.invariant.1 more here c.if-r.true

pub returns-then-is_twice : goal.returns-then-is_twice
returns-then-is_twice c =
    let records-of : List Raw = take c.args.count c.args.table in
    let record_read : Raw = get_or c.args.table c.loop-i.i nowhere in
    let more : c.loop-i.i < length records-of = omega arith in
    let here : get_or records-of c.loop-i.i nowhere ≡ record_read = let a = c.args in get_or-take a.count a.table c.loop-i.i nowhere c.loop-i-test.true in
    let s = c.loop-i.invariant.1 in
    twice s more here (is-met s _ _ (rw c.find-first.ensures at c.if-is_twice.true))

pub loop-i-preserved : goal.loop-i-preserved
loop-i-preserved c =
    let records-of : List Raw = take c.args.count c.args.table in
    let record_read : Raw = get_or c.args.table c.loop-i.i nowhere in
    let more : c.loop-i.i < length records-of = omega arith in
    let here : get_or records-of c.loop-i.i nowhere ≡ record_read = let a = c.args in get_or-take a.count a.table c.loop-i.i nowhere c.loop-i-test.true in
    let s = c.loop-i.invariant.1 in
    let fresh : holds record_read.tag record_read.id (take c.loop-i.i records-of) ≡ false =
    elim c.if-met-mark-ne0.branch [
      | then-met-mark-ne0+else-is_twice w ↦ not-met s _ _ (rw w.find-first.ensures at w.if-is_twice.false)
      | else-met-mark-ne0 w ↦ s.unmet _ _ w.if-met-mark-ne0.false
    ] in
    let r = record_read in
    let a = c.args in (
      c.loop-i.invariant.0,
      elim c.if-r-tag.branch [
        | then-r-tag+then-r-id w ↦
            rw (w.at-is, w.held-is)
            (hit s more here (omega arith) c.if-r.false fresh (rw (eq-eqb r.tag a.tag w.if-r-tag.true, eq-eqb r.id a.id w.if-r-id.true)))
        | else-r-tag w ↦
            let other : has_key a.tag a.id r ≡ false =
            elim w.else-r-tag.branch [
              | else-r-tag-via-then-r-tag+else-r-id v ↦ rw (eq-eqb r.tag a.tag v.if-r-tag.true, ne_eqb r.id a.id v.if-r-id.false)
              | else-r-tag-via-else-r-tag v ↦ rw (ne_eqb r.tag a.tag v.if-r-tag.false)
            ] in
            rw (w.at-is, w.held-is) (miss s more here (omega arith) c.if-r.false fresh other)
      ],
    )

pub returns : goal.returns
returns c = finish c.loop-i.invariant.1 (omega arith)
