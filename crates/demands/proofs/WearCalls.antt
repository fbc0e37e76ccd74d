-- The wear of any call, by its course.
use Rattle.std.specs.Prelude.{◌≡◌, true, Option, Some, None, is_some, unwrap_or, IfSome, Err}
use mathlib.Core.Path.{refl, sym, ◌∙◌}
use mathlib.Core.Bool.{false≢true}
use mathlib.Core.List.{List, []}
use Prim.Native.Nat.{ℕ, ◌+◌, ◌≤◌, ◌<◌}
use native.Mathlib.Omega.{arith}
use lib.ListN.{length, length-take}
use Rattle.basics.specs.declared.Refusal.TheVariants.{WriteError}
use Rattle.basics.proofs.ChoiceLaws.{fails}
use Rattle.codec.specs.declared.Raw.{Raw}
use Rattle.flash.specs.declared.Plan.{Plan}
use Rattle.flash.specs.Image.{sectors_in}
use Rattle.flash.specs.Run.{Flash}
use Rattle.flash.proofs.ImageSectors.{sectors-fit}
use Rattle.flash.proofs.RunLaws.{Paid, CutIsDead}
use Rattle.records.specs.declared.State.TheVariants.{Unformatted}
use Rattle.records.specs.declared.Log.{Log}
use Rattle.records.specs.Table.{limit, joined}
use Rattle.records.specs.Logs.{records_of}
use Rattle.records.proofs.FittingLaws.{fits_clauses, fits-active}
use Rattle.sectors.specs.Commits.{commit_first}
use Rattle.sectors.proofs.SectorsCosts.{Within, within_on}
use Rattle.decisions.specs.Outcomes.{Outcome, flash_of}
use Rattle.demands.specs.Calls.{outcome_of, NoEffect}
use Rattle.demands.specs.Seen.{Seen}
use Rattle.demands.specs.Wear.{Wears, CallWears}
use Rattle.demands.proofs.Tables.{join_few}
use Rattle.demands.proofs.WearLaws.{paid_on, commit_paid, append_paid, commit-spent, append-spent, Whole, whole-none, whole-on}
use Rattle.demands.proofs.WearLaws.{commit-full, append-full, first_costs, append_costs, append_light}
use Rattle.demands.proofs.CallsCourses.{Course, refusal, given, appends, formats, anchors, call_course}

-- the units of a plan that has them to spare, where its power is limited
units_spare : (left : Option ℕ) → is_some left ≡ true → IfSome left (λ units. 73536 ≤ units) → 73536 ≤ unwrap_or left 0
units_spare (Some units) limited enough = enough
units_spare None limited enough = absurd (false≢true limited)

-- what was paid for and is within bounds, from a flash that nothing was used of
wears-by : (image : List ℕ) (plan : Plan) (o : Outcome) (p e : ℕ) → p ≤ 8000 → e ≤ 65536 → p + e < 73536
    → Paid (flash_of image plan) o.flash → Within p e (flash_of image plan) o.flash → CutIsDead o.flash
    → Whole (flash_of image plan) o.flash → Wears plan o
wears-by image plan o p e h k few paid w dead whole = record {
  limited = paid.limited;
  units = λ l. paid.units l ∙ omega arith;
  programmed = omega (arith, w.programmed);
  erased = omega (arith, w.erased);
  lasts = paid.uncut;
  spare = λ enough. fails o.flash.cut (λ c.
      let none_left = (dead c).1 in
      let limited = sym paid.limited ∙ (dead c).0 in
      let used = paid.units limited in
      let most = units_spare plan.units limited enough in
      omega (arith, w.programmed, w.erased));
  cut-limited = λ c. sym paid.limited ∙ (dead c).0;
  cut-spent = λ c. (dead c).1;
  whole-slots = λ c. let x = whole.slots c in omega (arith, x.1);
  whole-sectors = λ c. let x = whole.sectors c in omega (arith, x.1);
}

module _ (image : List ℕ) (log : Log) (plan : Plan) where
  abbrev n : ℕ
  n = sectors_in (length image)

  abbrev f : Flash
  f = flash_of image plan

  abbrev next : ℕ
  next = log.next_seq

  few : n ≤ 16
  few = (sectors-fit (length image)).0

  -- nothing was used
  unused : Paid f f
  unused = record { limited = refl; units = λ _. refl; uncut = λ _. refl }

  uncut : CutIsDead f
  uncut c = absurd (false≢true c)

  nothing : Within 0 0 f f
  nothing = record { programmed = omega arith; erased = omega arith }

  course_wears : (L : Seen → Type 0) (o : Outcome) → Course image log plan L o → Wears plan o
  course_wears L o (refusal a k) = wears-by image plan o 0 0 (omega arith) (omega arith) (omega arith) unused nothing uncut (whole-none f)
  course_wears L o (given value) = wears-by image plan o 0 0 (omega arith) (omega arith) (omega arith) unused nothing uncut (whole-none f)
  course_wears L o (appends fits s seq head e r value room) =
      let placed = fits-active n log fits s seq head e in
      let held : length (records_of log) ≤ limit = simp length-take (omega (arith, (fits_clauses n log fits).few)) in
      let most = join_few r (records_of log) room held in
      wears-by image plan o 7968 61440 (omega arith) (omega arith) (omega arith)
      (append_paid n s seq head next r (joined r (records_of log)) f placed.within placed.high)
      (append_costs (joined r (records_of log)) n few s seq head next r f placed.within most)
      (append-spent n s seq head next r (joined r (records_of log)) f placed.within placed.high uncut)
      (append-full n s seq head next r (joined r (records_of log)) f placed.within placed.high)
  course_wears L o (formats fits some e new most) =
      wears-by image plan o 2304 65536 (omega arith) (omega arith) (omega arith)
      (commit_paid n n new n 0 (Err WriteError) Unformatted next f some) (first_costs new n few Unformatted next f most)
      (commit-spent n n new n 0 (Err WriteError) Unformatted next f some uncut) (commit-full n n new n 0 (Err WriteError) Unformatted next f some)
  course_wears L o (anchors may fits some e d s seq within z r value) =
      let w = commit_first n [] Unformatted next f in
      let none : length {A = Raw} [] ≤ 8 = omega arith in
      wears-by image plan o 2352 65536 (omega arith) (omega arith) (omega arith)
      (paid_on f w.flash o.flash (commit_paid n n [] n 0 (Err WriteError) Unformatted next f some)
      (append_paid n s seq 1 w.next r (joined r []) w.flash within (omega arith)))
      (within_on 2304 65536 48 0 f w.flash o.flash (first_costs [] n few Unformatted next f none)
      (append_light n s seq 1 w.next r (joined r []) w.flash (omega arith)))
      (append-spent n s seq 1 w.next r (joined r []) w.flash within (omega arith)
      (commit-spent n n [] n 0 (Err WriteError) Unformatted next f some uncut))
      (whole-on f w.flash o.flash (commit-full n n [] n 0 (Err WriteError) Unformatted next f some)
      (append-full n s seq 1 w.next r (joined r []) w.flash within (omega arith)))

pub call-wears : CallWears
call-wears c image log plan = course_wears image log plan (NoEffect c log) (outcome_of c image log plan) (call_course image log plan c)
