-- `reads::enter` meets its contract.
use mathlib.Core.Path.{◌≡◌, sym, ap, ◌∙◌}
use mathlib.Core.Bool.{Bool, true, false}
use Prim.Native.Nat.{◌≤◌}
use native.Mathlib.Omega.{arith}
use lib.Dec.{ltb}
use lib.ListN.{length}
use Rattle.std.specs.Prelude.{Option, Some, None, Ok, Err, is_some, unwrap_or}
use Rattle.std.proofs.lemmas.Result.{err_from_is_err_and}
use Rattle.basics.specs.Answers.{all_done}
use Rattle.basics.specs.declared.Refusal.TheVariants.{BadImage, BadLog, BadId}
use Rattle.records.specs.declared.fitting.Looked.{Looked}
use Rattle.records.specs.Table.{limit, place_of, held_of}
use Rattle.records.specs.Logs.{records_of}
use Rattle.records.specs.Fitting.{log_fits}
use Rattle.records.specs.Surveys.{found_in}
use Rattle.records.proofs.LogsOwned.{whole-log}
use Rattle.records.proofs.FittingLaws.{fits_clauses, records_length}
use Rattle.records.proofs.FittingLooking.{looked_fits, looked_found}
use Rattle.reads.proofs.EnteringLaws.{answer_no_image, answer_bad_log, answer_bad_id, answer-done, entry_by, room_at}
use Rattle.reads.proofs.enter.Goals as goal
use Rattle.reads.proofs.enter.Goals.{In_ok-l}

pub returns-then-sectors-eq0 : goal.returns-then-sectors-eq0
returns-then-sectors-eq0 c =
    let a = c.args in
    entry_by a.sectors a.log a.known a.tag a.id (Err BadImage) (answer_no_image a.sectors a.log a.known c.if-sectors-eq0.true)

pub returns-in_err-l : goal.returns-in_err-l
returns-in_err-l c =
    let a = c.args in
    let p = err_from_is_err_and c.from_residual.result c.from_residual.ensures.1 in
    let none : c.look.result ≡ None = grind arith in
    let bad : c.in_err-l.field-0.0 ≡ BadLog = grind arith in
    let fits : log_fits a.sectors a.log ≡ false =
    sym (looked_fits a.sectors a.tag a.id a.log) ∙ ap (λ (o : Option Looked). is_some o) (sym c.look.ensures ∙ none) in
    rw (p.1, p.2, bad)
    (entry_by a.sectors a.log a.known a.tag a.id (Err BadLog) (answer_bad_log a.sectors a.log a.known c.if-sectors-eq0.false fits))

-- a log that fits, and what was found in it
found_is : (c : In_ok-l) → c.look.result ≡ Some c.in_ok-l.l
found_is c = grind arith

fits : (c : In_ok-l) → log_fits c.args.sectors c.args.log ≡ true
fits c =
    let a = c.args in
    sym (looked_fits a.sectors a.tag a.id a.log) ∙ ap (λ (o : Option Looked). is_some o) (sym c.look.ensures ∙ found_is c)

pub returns-then-not-known : goal.returns-then-not-known
returns-then-not-known c =
    let a = c.args in
    entry_by a.sectors a.log a.known a.tag a.id (Err BadId)
    (answer_bad_id a.sectors a.log a.known c.if-sectors-eq0.false (fits (goal.at.returns-then-not-known c).In_ok-l) c.if-not-known.true)

pub returns : goal.returns
returns c =
    let a = c.args in
    let t = records_of a.log in
    let ok = (goal.at.returns c).In_ok-l in
    let few : length t ≤ limit =
    omega (arith, records_length a.log (whole-log a.log c.well_formed.0) a.sectors (fits ok), (fits_clauses a.sectors a.log (fits ok)).few) in
    let same : c.in_ok-l.l ≡ found_in a.tag a.id t =
    ap (λ (o : Option Looked). unwrap_or o c.in_ok-l.l) (sym (found_is ok) ∙ c.look.ensures ∙ looked_found a.sectors a.tag a.id a.log (fits ok)) in
    ap (λ (x : Looked). Ok (record { at = x.at; room = ltb x.at limit; held = x.held })) same
    ∙ ap (λ (room : Bool). Ok (record { at = place_of a.tag a.id t; room = room; held = held_of a.tag a.id t })) (room_at a.tag a.id t few)
    ∙ entry_by a.sectors a.log a.known a.tag a.id all_done
    (answer-done a.sectors a.log a.known c.if-sectors-eq0.false (fits ok) c.if-not-known.false)
