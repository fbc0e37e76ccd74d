-- A call in three steps, as the code takes them: what it found, what it decided on that, and what comes of it.
use Rattle.codec.specs.declared.Raw.{Raw}
use Rattle.std.specs.Prelude.{Option, Result, Ok, Err, is_ok}
use Rattle.std.specs.Result.{result_unwrap_or}
use mathlib.Core.Path.{◌≡◌, refl, sym, ap, ap₂, subst, ◌∙◌}
use mathlib.Core.Bool.{Bool, true, false, false≢true}
use mathlib.Core.List.{List}
use Prim.Native.Nat.{ℕ, ◌≤◌}
use native.Mathlib.Omega.{arith}
use lib.ListN.{length}
use borrow.Author.Tests.{ltb-true}
use Rattle.basics.specs.Choice.{pick}
use Rattle.basics.specs.Answers.{Answer, is_done}
use Rattle.basics.specs.declared.Refusal.{Refusal}
use Rattle.flash.specs.declared.Plan.{Plan}
use Rattle.flash.specs.Image.{sectors_in}
use Rattle.flash.proofs.ImageSectors.{sectors-fit}
use Rattle.records.specs.declared.Log.{Log}
use Rattle.records.specs.Table.{limit, place_of}
use Rattle.records.specs.Logs.{records_of}
use Rattle.records.proofs.LogsOwned.{WholeLog}
use Rattle.records.proofs.FittingLaws.{fits_clauses, records_length}
use Rattle.sectors.specs.declared.Used.{Used}
use Rattle.sectors.specs.Shown.{flash_with}
use Rattle.decisions.specs.declared.Decision.{Decision}
use Rattle.decisions.specs.Decisions.{writes_record, record_in}
use Rattle.decisions.proofs.DecisionsKeyed.{Keyed}
use Rattle.reads.specs.declared.Entry.{Entry}
use Rattle.reads.specs.Entering.{entry_answer, found_entry, entry_of}
use Rattle.reads.proofs.EnteringLaws.{let_in_by, entry-refused, entry-let_in, room_at}
use Rattle.decisions.specs.declared.outcomes.Done.{Done}
use Rattle.decisions.specs.Outcomes.{Outcome, ShowsDone, flash_of, refused, entered}
use Rattle.decisions.specs.Performing.{decided}
use Rattle.decisions.specs.Ready.{FitToWrite, Placed, Ready, answered_of, performed_on}

-- what is decided on what a call found, beside the place of its key
abbrev pub decided_by : (Option Raw → Bool → Decision) → Result Entry Refusal → Result (ℕ × Decision) Refusal
decided_by decision (Ok e) = Ok (e.at, decision e.held e.room)
decided_by decision (Err r) = Err r

module _ (image : List ℕ) (log : Log) (plan : Plan) (known : Bool) (tag id : ℕ) where
  abbrev n : ℕ
  n = sectors_in (length image)

  -- ---- a call that was turned away, and one that was let in, by what `enter` answers
  pub entered-refused : (call : ℕ → Log → _ → Outcome) (r : Refusal) → entry_of n log known tag id ≡ Err r
      → entered image log plan known call ≡ refused (Err r) log (flash_of image plan)
  unfolding entered
  entered-refused call r e =
      ap (λ (a : Answer). pick (is_done a) (call n log (flash_of image plan)) (refused a log (flash_of image plan)))
      (entry-refused n log known tag id r e)

  module _ (e : Entry) (is-entry : entry_of n log known tag id ≡ Ok e) where
    let_in : is_done (entry_answer n log known) ≡ true
    let_in = (entry-let_in n log known tag id e is-entry).0

    found : found_entry tag id (records_of log) ≡ e
    found = (entry-let_in n log known tag id e is-entry).1

    pub entered_in : (call : ℕ → Log → _ → Outcome) → entered image log plan known call ≡ call n log (flash_of image plan)
    unfolding entered
    entered_in call =
        ap (λ (b : Bool). pick b (call n log (flash_of image plan)) (refused (entry_answer n log known) log (flash_of image plan))) let_in

    -- ---- what the step that performs it asks
    pub in_room : FitToWrite (length image) n log (record { plan = plan; programmed = 0; erased = 0 })
    in_room =
        let fit = sectors-fit (length image) in
        record {
          few = fit.0;
          sized = fit.1;
          fits = (let_in_by n log known let_in).1;
          slots = omega (arith, fit.0);
          erases = omega (arith, fit.0);
        }

    placed_in : WholeLog log → (d : Decision) → Keyed tag id e.room d → writes_record d ≡ true → Placed log e.at (record_in d)
    placed_in whole d k w =
        let t = records_of log in
        let fits = in_room.fits in
        let few : length t ≤ limit = omega (arith, records_length log whole n fits, (fits_clauses n log fits).few) in
        let place = ap (λ (x : Entry). x.at) (sym found) in
        let free = ltb-true (place_of tag id t) limit (room_at tag id t few ∙ ap (λ (x : Entry). x.room) found ∙ k.roomy w) in
        record {
          place = place ∙ ap₂ (λ (x y : ℕ). place_of x y t) (sym (k.tagged w)) (sym (k.named w));
          free = omega (arith, place, free);
        }

  -- ---- a decision on what was found: what the step that performs it asks, and what comes of it
  module _ (decision : Option Raw → Bool → Decision) where
    pub ready : WholeLog log → (x : Result Entry Refusal) → ((e : Entry) → x ≡ Ok e → Keyed tag id e.room (decision e.held e.room))
        → entry_of n log known tag id ≡ x
        → Ready (length image) n log (record { plan = plan; programmed = 0; erased = 0 }) (decided_by decision x)
    ready whole (Ok e) keyed is =
        let own : ℕ × Decision = (e.at, decision e.held e.room) in
        record {
          room = λ _. in_room e is;
          placed = λ at d h.
              subst (λ (p : ℕ × Decision). writes_record p.1 ≡ true → Placed log p.0 (record_in p.1))
              (ap (λ (y : Result (ℕ × Decision) Refusal). result_unwrap_or y own) h)
              (placed_in e is whole (decision e.held e.room) (keyed e refl));
        }
    ready whole (Err r) keyed is =
        record {
          room = λ h. absurd (false≢true h);
          placed = λ at d h. absurd (false≢true (ap (λ (y : Result (ℕ × Decision) Refusal). is_ok y) h));
        }

    pub called : (x : Result Entry Refusal) → entry_of n log known tag id ≡ x
        → performed_on (decided_by decision x) n log (flash_of image plan) ≡ entered image log plan known (decided tag id decision)
    called (Ok e) is =
        sym
        (entered_in e is (decided tag id decision)
        ∙ ap (λ (x : Entry). performed_on (Ok (x.at, decision x.held x.room)) n log (flash_of image plan)) (found e is))
    called (Err r) is = sym (entered-refused (decided tag id decision) r is)

  -- what a call hands back that was turned away
  pub call_refused : (call : ℕ → Log → _ → Outcome) (r : Refusal) (used : Used) → entry_of n log known tag id ≡ Err r
      → used ≡ record { plan = plan; programmed = 0; erased = 0 }
      → ShowsDone (entered image log plan known call) (answered_of (Err r) log used) image
  call_refused call r used e fresh =
      rw (entered-refused call r e, fresh) (record { answered = refl; left = refl })

-- ---- the same, with what the code's steps handed back: an image of m sectors, a key that is known, an entry, what was decided, and a plan
pub record Steps (image : List ℕ) (log : Log) (plan : Plan) (known : Bool) (tag id : ℕ) (decision : Option Raw → Bool → Decision)
    (m : ℕ) (used : Used) (d : Result (ℕ × Decision) Refusal) : Type 0 where
  pub sure : Bool
  pub entry : Result Entry Refusal
  pub counted : m ≡ sectors_in (length image)
  pub surely : sure ≡ known
  pub fresh : used ≡ record { plan = plan; programmed = 0; erased = 0 }
  pub entering : entry ≡ entry_of m log sure tag id
  pub deciding : d ≡ decided_by decision entry

module _ {image : List ℕ} {log : Log} {plan : Plan} {known : Bool} {tag id : ℕ} {decision : Option Raw → Bool → Decision}
    {m : ℕ} {used : Used} {d : Result (ℕ × Decision) Refusal} (s : Steps image log plan known tag id decision m used d) where
  is-decided : d ≡ decided_by decision (entry_of (sectors_in (length image)) log known tag id)
  is-decided =
      s.deciding ∙ ap (decided_by decision) (s.entering ∙ ap₂ (λ (n : ℕ) (k : Bool). entry_of n log k tag id) s.counted s.surely)

  -- asked of what was found alone, and of nothing where the call was turned away
  pub call-ready : WholeLog log
      → ((e : Entry) → entry_of (sectors_in (length image)) log known tag id ≡ Ok e → Keyed tag id e.room (decision e.held e.room))
      → Ready (length image) m log used d
  call-ready whole keyed =
      rw (s.counted, s.fresh, is-decided)
      (ready image log plan known tag id decision whole (entry_of (sectors_in (length image)) log known tag id) keyed refl)

  pub call_meets : (r : Done) (left : List ℕ) → ((cut : Bool) → ShowsDone (performed_on d m log (flash_with image used cut)) r left)
      → ShowsDone (entered image log plan known (decided tag id decision)) r left
  call_meets r left shown =
      let same : performed_on d m log (flash_with image used false) ≡ entered image log plan known (decided tag id decision) =
      (λ i. performed_on (is-decided i) (s.counted i) log (flash_with image (s.fresh i) false))
      ∙ called image log plan known tag id decision (entry_of (sectors_in (length image)) log known tag id) refl in
      subst (λ (o : Outcome). ShowsDone o r left) same (shown false)
