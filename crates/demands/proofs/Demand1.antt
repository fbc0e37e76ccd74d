-- Demand 1: a call that fails a test is refused before anything else, and a write answers 0, 6 or 7 only. The calls that only read stand last.
use Rattle.std.specs.Prelude.{Option, None, Result, Ok, Err}
use Rattle.basics.specs.Answers.{all_done, refusal_number, number_of, is_done, beside, Answer}
use mathlib.Core.Path.{◌≡◌, refl, sym, ap, subst, ◌∙◌}
use mathlib.Core.Bool.{Bool, true, false, false≢true}
use mathlib.Core.List.{List, [], ◌∷◌}
use Prim.Native.Nat.{ℕ, zero, suc, ◌+◌}
use lib.Dec.{eqb, leb}
use lib.ListN.{length}
use borrow.Author.Tests.{eq-eqb}
use Rattle.basics.specs.Choice.{pick}
use Rattle.basics.specs.Lists.{same}
use Rattle.basics.specs.Says.{says_refused, option_says, value_told}
use Rattle.basics.specs.declared.Refusal.{Refusal}
use Rattle.basics.specs.declared.Refusal.TheVariants.{BadImage, BadLog, BadId, NotFormatted, WriteError}
use Rattle.basics.proofs.ChoiceLaws.{by_test}
use Rattle.basics.proofs.SaysLaws.{told-beside, told-chosen}
use Rattle.codec.specs.declared.Raw.{Raw}
use Rattle.codec.specs.Slots.{slot_of, header_slot}
use Rattle.flash.specs.declared.Plan.{Plan}
use Rattle.flash.specs.Image.{sectors_in}
use Rattle.flash.specs.Run.{Flash, Stepped, program, erase}
use Rattle.flash.proofs.RunLaws.{Programmed, program-refused, program-stopped, program-whole, program-outcome, Erased, erase-refused}
use Rattle.flash.proofs.RunLaws.{erase-stopped, erase-whole, erase-outcome}
use Rattle.records.specs.declared.State.{State}
use Rattle.records.specs.declared.State.TheVariants.{Unformatted, Active, Failed}
use Rattle.records.specs.declared.Log.{Log}
use Rattle.records.specs.Fitting.{log_fits, seq_max}
use Rattle.sectors.specs.Sectors.{on_done, write_records, write_sector}
use Rattle.sectors.specs.Commits.{Written, sector_after, commit_from}
use Rattle.sectors.specs.Appends.{SlotTries, tries_from, append_of}
use Rattle.records.specs.Table.{held_of}
use Rattle.reads.specs.Entering.{entry_answer, room_for}
use Rattle.reads.proofs.EnteringLaws.{answer_no_image, answer_bad_log, answer_bad_id, answer-done, turned-away, taken_in}
use Rattle.reads.specs.Reads.{held_by, record_held, read_in, get_of, value_of, anchor_of, lamport_by, migration_by, needs_migration_of}
use Rattle.bodies.specs.Bodies.{counter_in, value_in, anchor_in}
use Rattle.decisions.specs.Outcomes.{Outcome, flash_of, refused, entered}
use Rattle.ids.specs.declared.Anchor.{Anchor}
use Rattle.ids.specs.Ids.{counter_tag, value_tag, anchor_tag, lamport as lamport_id, is_credential, is_value}
use Rattle.records.specs.Logs.{records_of, log_of}
use Rattle.scan.specs.declared.Opened.{Opened}
use Rattle.scan.specs.Opening.{scan_of, log_from, open_of}
use Rattle.decisions.specs.declared.Decision.{Decision}
use Rattle.decisions.specs.Decisions.{when_active}
use Rattle.decisions.specs.Seeds.{seeds_known, seed_table}
use Rattle.decisions.specs.Performing.{performed, decided, formatted}
use Rattle.counter_log.specs.Calls.{is_first, anchored_first, anchored as anchored_on, format_on, put_anchor_of, format_of}
use Rattle.tries.specs.Tries.{tries_left_by, load_by}
use Rattle.demands.specs.Calls.{Call, outcome_of, NoEffect}
use Rattle.demands.specs.Seen.{Seen}
use Rattle.demands.specs.Demand1.{leaves_all, known_in, by_state, state_number, RefusedWith, Refuses, Asked, get, get_value, remaining, anchor}
use Rattle.demands.specs.Demand1.{lamport, needs-migration, load, reply_of, says_number, told_says, flag_says, says_of, turned_away, known_to, state_reply, RefusesAsked}
use Rattle.demands.specs.Demand1.{Demand1Calls, Demand1Asked, Demand1Open}
use Rattle.demands.proofs.CallsCourses.{Course, refusal, given, appends, formats, anchors, call_course}
use Rattle.demands.proofs.CallsShapes.{Shape, by_kind}

-- ---- a write answers 0, 6 or 7
abbrev FromFlash : Answer → Type 0
FromFlash a = leaves_all (number_of a) ≡ false

program-answers : (s k : ℕ) (new : List ℕ) (f : Flash) → FromFlash (program s k new f).answer
program-answers s k new f = go (program-outcome s k new f)
  where
    go : {o : Stepped} → Programmed s k new f o → FromFlash o.answer
    go (program-refused h) = refl
    go (program-stopped e h) = refl
    go (program-whole e h) = by_test FromFlash (same _ new) all_done (Err WriteError) (λ _. refl) (λ _. refl)

erase-answers : (s : ℕ) (f : Flash) → FromFlash (erase s f).answer
erase-answers s f = go (erase-outcome s f)
  where
    go : {o : Stepped} → Erased s f o → FromFlash o.answer
    go (erase-refused h) = refl
    go (erase-stopped e h) = refl
    go (erase-whole e h) = refl

records_answers : (s seq k : ℕ) (t : List Raw) (f : Flash) → FromFlash (write_records s seq k t f).answer
unfolding write_records
records_answers s seq k [] f = refl
records_answers s seq k (r ∷ t) f =
    by_test (λ (o : Stepped). FromFlash o.answer) (is_done (program s k (slot_of seq r) f).answer) _ _
    (λ _. records_answers s seq (suc k) t (program s k (slot_of seq r) f).flash) (λ _. program-answers s k (slot_of seq r) f)

done-answers : (o : Stepped) (next : Flash → Stepped) → FromFlash o.answer → ((g : Flash) → FromFlash (next g).answer)
    → FromFlash (on_done o next).answer
done-answers o next a b = by_test (λ (x : Stepped). FromFlash x.answer) (is_done o.answer) (next o.flash) o (λ _. b o.flash) (λ _. a)

sector-answers : (s seq : ℕ) (t : List Raw) (f : Flash) → FromFlash (write_sector s seq t f).answer
unfolding write_sector
sector-answers s seq t f =
    done-answers (erase s f) (λ (g : Flash). on_done (write_records s seq 1 t g) (λ (h : Flash). program s 0 (header_slot seq) h)) (erase-answers s f)
    (λ g.
    done-answers (write_records s seq 1 t g) (λ (h : Flash). program s 0 (header_slot seq) h) (records_answers s seq 1 t g)
    (λ h. program-answers s 0 (header_slot seq) h))

commit-answers : (m n a s : ℕ) (t : List Raw) (last : Answer) (state : State) (next : ℕ) (f : Flash) → FromFlash last
    → FromFlash (commit_from m n a s t last state next f).answer
unfolding commit_from
commit-answers zero n a s t last state next f h = h
commit-answers (suc m) n a s t last state next f h =
    by_test (λ (w : Written). FromFlash w.answer) (eqb s a) _ _ (λ _. commit-answers m n a (sector_after n s) t last state next f h)
    (λ _. by_test (λ (w : Written). FromFlash w.answer) (eqb next seq_max) _ _ (λ _. refl)
    (λ _. by_test (λ (w : Written). FromFlash w.answer) (is_done (write_sector s next t f).answer) _ _ (λ _. refl)
    (λ _.
    commit-answers m n a (sector_after n s) t (write_sector s next t f).answer state (next + 1) (write_sector s next t f).flash
    (sector-answers s next t f))))

tries-answers : (m s head : ℕ) (bytes : List ℕ) (last : Answer) (f : Flash) → FromFlash last → FromFlash (tries_from m s head bytes last f).answer
unfolding tries_from
tries-answers zero s head bytes last f h = h
tries-answers (suc m) s head bytes last f h =
    by_test (λ (o : SlotTries). FromFlash o.answer) (eqb head 256) _ _ (λ _. h)
    (λ _. by_test (λ (o : SlotTries). FromFlash o.answer) (is_done (program s head bytes f).answer) _ _ (λ _. refl)
    (λ _. tries-answers m s (head + 1) bytes (program s head bytes f).answer (program s head bytes f).flash (program-answers s head bytes f)))

append-answers : (n s seq head next : ℕ) (r : Raw) (t : List Raw) (f : Flash) → FromFlash (append_of n s seq head next r t f).answer
unfolding append_of
append-answers n s seq head next r t f =
    by_test (λ (w : Written). FromFlash w.answer) (tries_from 3 s head (slot_of seq r) (Err WriteError) f).full _ _
    (λ _.
    commit-answers n n s (sector_after n s) t (Err WriteError) (Active s seq (tries_from 3 s head (slot_of seq r) (Err WriteError) f).head) next
    (tries_from 3 s head (slot_of seq r) (Err WriteError) f).flash refl)
    (λ _. tries-answers 3 s head (slot_of seq r) (Err WriteError) f refl)

-- ---- the calls that can write
module _ (image : List ℕ) (log : Log) (plan : Plan) where
  abbrev n : ℕ
  n = sectors_in (length image)

  abbrev f : Flash
  f = flash_of image plan

  course_unchanged : (L : Seen → Type 0) (o : Outcome) → Course image log plan L o → leaves_all (number_of o.answer) ≡ true
      → o ≡ refused o.answer log f
  course_unchanged L o (refusal a k) e = refl
  course_unchanged L o (given value) e = absurd (false≢true e)
  course_unchanged L o (appends fits s seq head k r value room) e =
      absurd (false≢true (sym (append-answers n s seq head log.next_seq r _ f) ∙ e))
  course_unchanged L o (formats fits some k new few) e =
      absurd (false≢true (sym (commit-answers n n n 0 new (Err WriteError) Unformatted log.next_seq f refl) ∙ e))
  course_unchanged L o (anchors may fits some k d s seq within z r value) e = absurd (false≢true (sym (append-answers n s seq 1 _ r _ _) ∙ e))

  -- what is told of what is handed back
  course_told : (L : Seen → Type 0) (o : Outcome) → Course image log plan L o → value_told (beside o.answer o.value) ≡ o.value
  course_told L o (refusal a k) = told-beside a 0 ∙ ap (λ (b : Bool). pick {A = ℕ} b 0 0) k
  course_told L o (given value) = refl
  course_told L o (appends fits s seq head k r value room) = told-chosen (append_of n s seq head log.next_seq r _ f).answer value
  course_told L o (formats fits some k new few) = told-chosen (commit_from n n n 0 new (Err WriteError) Unformatted log.next_seq f).answer 0
  course_told L o (anchors may fits some k d s seq within z r value) = told-chosen (append_of n s seq 1 _ r _ _).answer value

  -- refused with a number, and by which answer
  abbrev Refused : ℕ → Outcome → Type 0
  Refused k o = (number_of o.answer ≡ k) × (o ≡ refused o.answer log f)

  refused-by : (a : Answer) (o : Outcome) → o ≡ refused a log f → Refused (number_of a) o
  refused-by a o e = let same = ap (λ (x : Outcome). x.answer) e in (ap number_of same, e ∙ ap (λ (x : Answer). refused x log f) (sym same))

  entered-refuses : (known : Bool) (call : ℕ → Log → Flash → Outcome) (a : Answer) → entry_answer n log known ≡ a → is_done a ≡ false
      → Refused (number_of a) (entered image log plan known call)
  unfolding entered
  entered-refuses known call a e d =
      refused-by a _
      (ap (λ (x : Answer). pick (is_done x) (call n log f) (refused x log f)) e ∙ ap (λ (b : Bool). pick b (call n log f) (refused a log f)) d)

  call-refuses : (c : Call) (a : Answer) → entry_answer n log (known_in c) ≡ a → is_done a ≡ false → RefusedWith c image log plan (number_of a)
  unfolding put_anchor_of format_of
  call-refuses =
      by_kind
      (λ (x : Shape). (a : Answer) → entry_answer n log x.known ≡ a → is_done a ≡ false → Refused (number_of a) (x.outcome image log plan))
      (λ typed known tag id d r k. entered-refuses known (decided tag id d)) (λ new. entered-refuses true _)
      (λ seeds count. entered-refuses (seeds_known seeds count) _)

  -- ---- a call that was let in
  module _ (some : n ≡ 0 → ⊥) (fits : log_fits n log ≡ true) where
    pub entered_on : (known : Bool) (call : ℕ → Log → Flash → Outcome) → known ≡ true → entered image log plan known call ≡ call n log f
    unfolding entered
    entered_on known call k = ap (λ (x : Answer). pick (is_done x) (call n log f) (refused x log f)) (answer-done n log known some fits k)

    entered-refused : (k : ℕ) (known : Bool) (call : ℕ → Log → Flash → Outcome) → known ≡ true → Refused k (call n log f)
        → Refused k (entered image log plan known call)
    entered-refused k known call e = subst (Refused k) (sym (entered_on known call e))

    inactive : (d : Decision) (z : State) → (by_state 4 5 0 z ≡ 0 → ⊥) → Refused (by_state 4 5 0 z) (performed (when_active z d) n log f)
    unfolding performed
    inactive d Unformatted e = (refl, refl)
    inactive d Failed e = (refl, refl)
    inactive d (Active sector seq head) e = absurd (e refl)

    format-not-ready : (t : List Raw) (z : State) → (by_state 0 6 6 z ≡ 0 → ⊥) → Refused (by_state 0 6 6 z) (format_on z t n log f)
    format-not-ready t Unformatted e = absurd (e refl)
    format-not-ready t Failed e = (refl, refl)
    format-not-ready t (Active sector seq head) e = (refl, refl)

    anchor-not-ready : (new : Anchor) (z : State) → (by_state (pick (is_first new) 0 4) 5 0 z ≡ 0 → ⊥)
        → Refused (by_state (pick (is_first new) 0 4) 5 0 z) (anchored_on z new n log f)
    anchor-not-ready new Unformatted e = go (is_first new) e
      where
        go : (b : Bool) → (pick {A = ℕ} b 0 4 ≡ 0 → ⊥)
            → Refused (pick b 0 4) (pick b (anchored_first new n (formatted [] n log f)) (refused (Err NotFormatted) log f))
        go true e = absurd (e refl)
        go false e = (refl, refl)
    anchor-not-ready new Failed e = (refl, refl)
    anchor-not-ready new (Active sector seq head) e = absurd (e refl)

    call-not-ready : (c : Call) → known_in c ≡ true → (state_number c log.state ≡ 0 → ⊥)
        → RefusedWith c image log plan (state_number c log.state)
    unfolding put_anchor_of format_of
    call-not-ready =
        by_kind
        (λ (x : Shape). x.known ≡ true → (x.state_says log.state ≡ 0 → ⊥) → Refused (x.state_says log.state) (x.outcome image log plan))
        (λ typed known tag id d r m k e.
        entered-refused _ known (decided tag id d) k
        (inactive (d (held_of tag id (records_of log)) (room_for tag id (records_of log))) log.state e))
        (λ new k e.
        entered-refused _ true (λ (n : ℕ) (l : Log) (f : Flash). anchored_on l.state new n l f) k (anchor-not-ready new log.state e))
        (λ seeds count k e.
        entered-refused _ (seeds_known seeds count) (λ (n : ℕ) (l : Log) (f : Flash). format_on l.state (seed_table seeds count) n l f) k
        (format-not-ready (seed_table seeds count) log.state e))

  refuses-all : (c : Call) → Refuses c image log plan
  refuses-all c = record {
    no_image = λ e. call-refuses c (Err BadImage) (answer_no_image n log (known_in c) e) refl;
    bad_log = λ e k. call-refuses c (Err BadLog) (answer_bad_log n log (known_in c) e k) refl;
    bad_id = λ e k z. call-refuses c (Err BadId) (answer_bad_id n log (known_in c) e k z) refl;
    not-ready = λ e k. call-not-ready e k c;
    unchanged = course_unchanged (NoEffect c log) (outcome_of c image log plan) (call_course image log plan c);
    told = course_told (NoEffect c log) (outcome_of c image log plan) (call_course image log plan c);
  }

pub demand_1_calls : Demand1Calls
demand_1_calls c image log plan = refuses-all image log plan c

-- ---- the calls that only read
-- the record held of a key, and the answer 4
abbrev Held : Type 0
Held = Result (Option Raw) Refusal

abbrev four : Held
four = Err NotFormatted

module _ (log : Log) where
  some-sectors : ◌≡◌ {A = ℕ} 16 0 → ⊥
  some-sectors e = false≢true (ap (λ (x : ℕ). eqb x 0) e)

  -- 2 and 3; load tells them from 4 and 5 by their numbers
  asked_refused : (q : Asked) (r : Refusal) → entry_answer 16 log (known_to q) ≡ Err r → leb 4 (refusal_number r) ≡ false
      → says_of q (reply_of q log) ≡ turned_away q (refusal_number r)
  unfolding get_of value_of anchor_of record_held needs_migration_of
  asked_refused (get credential) r e low =
      ap (λ (x : Held). option_says (read_in counter_in x)) (turned-away (held_by four) Err log (is_credential credential) counter_tag credential r e)
  asked_refused (get_value id) r e low =
      ap (λ (x : Held). option_says (read_in value_in x)) (turned-away (held_by four) Err log (is_value id) value_tag id r e)
  asked_refused (remaining credential) r e low =
      ap (λ (x : Held). option_says (tries_left_by (read_in counter_in x)))
      (turned-away (held_by four) Err log (is_credential credential) counter_tag credential r e)
  asked_refused anchor r e low = ap (λ (x : Held). option_says (read_in anchor_in x)) (turned-away (held_by (Ok None)) Err log true anchor_tag 0 r e)
  asked_refused lamport r e low =
      ap (λ (x : Held). told_says (lamport_by (read_in value_in x))) (turned-away (held_by four) Err log true value_tag lamport_id r e)
  asked_refused needs-migration r e low = ap flag_says (turned-away migration_by Err log true anchor_tag 0 r e)
  asked_refused (load credential exists fresh) r e low =
      ap (λ (x : Held). told_says (load_by exists fresh (tries_left_by (read_in counter_in x))))
      (turned-away (held_by four) Err log (is_credential credential) counter_tag credential r e)
      ∙ ap (λ (b : Bool). told_says (pick b (Ok 0) (Err r))) low

  -- what is said of an Unformatted log, where that is a refusal, and of a Failed one
  state_says : {A : Type 0} {k : ℕ} (says : State → A) (away : ℕ → A) (z : State) → (by_state k 5 0 z ≡ 0 → ⊥) → says Unformatted ≡ away k
      → says Failed ≡ away 5 → says z ≡ away (by_state k 5 0 z)
  state_says says away Unformatted e u v = u
  state_says says away Failed e u v = v
  state_says says away (Active sector seq head) e u v = absurd (e refl)

  asked_not-ready : (q : Asked) → is_done (entry_answer 16 log (known_to q)) ≡ true → (state_reply q log.state ≡ 0 → ⊥)
      → says_of q (reply_of q log) ≡ turned_away q (state_reply q log.state)
  unfolding get_of value_of anchor_of record_held needs_migration_of
  asked_not-ready (get credential) e d =
      let held = held_of counter_tag credential (records_of log) in
      ap (λ (x : Held). option_says (read_in counter_in x)) (taken_in (held_by four) Err log (is_credential credential) counter_tag credential e)
      ∙ state_says (λ (z : State). option_says (read_in counter_in (held_by four z held))) says_refused log.state d refl refl
  asked_not-ready (get_value id) e d =
      let held = held_of value_tag id (records_of log) in
      ap (λ (x : Held). option_says (read_in value_in x)) (taken_in (held_by four) Err log (is_value id) value_tag id e)
      ∙ state_says (λ (z : State). option_says (read_in value_in (held_by four z held))) says_refused log.state d refl refl
  asked_not-ready (remaining credential) e d =
      let held = held_of counter_tag credential (records_of log) in
      ap (λ (x : Held). option_says (tries_left_by (read_in counter_in x)))
      (taken_in (held_by four) Err log (is_credential credential) counter_tag credential e)
      ∙ state_says (λ (z : State). option_says (tries_left_by (read_in counter_in (held_by four z held)))) says_refused log.state d refl refl
  asked_not-ready anchor e d =
      let held = held_of anchor_tag 0 (records_of log) in
      ap (λ (x : Held). option_says (read_in anchor_in x)) (taken_in (held_by (Ok None)) Err log true anchor_tag 0 e)
      ∙ state_says (λ (z : State). option_says (read_in anchor_in (held_by (Ok None) z held))) says_refused log.state d refl refl
  asked_not-ready lamport e d =
      let held = held_of value_tag lamport_id (records_of log) in
      ap (λ (x : Held). told_says (lamport_by (read_in value_in x))) (taken_in (held_by four) Err log true value_tag lamport_id e)
      ∙ state_says (λ (z : State). told_says (lamport_by (read_in value_in (held_by four z held)))) (λ (k : ℕ). says_number k 0) log.state d refl refl
  asked_not-ready needs-migration e d = absurd (d refl)
  asked_not-ready (load credential exists fresh) e d = absurd (d refl)

  asked_all : (q : Asked) → RefusesAsked q log
  asked_all q = record {
    bad_log = λ k. asked_refused q BadLog (answer_bad_log 16 log (known_to q) some-sectors k) refl;
    bad_id = λ k z. asked_refused q BadId (answer_bad_id 16 log (known_to q) some-sectors k z) refl;
    not-ready = λ k z. asked_not-ready q (ap is_done (answer-done 16 log (known_to q) some-sectors k z));
  }

pub demand_1_asked : Demand1Asked
demand_1_asked q log = asked_all log q

-- ---- opening
pub demand_1_open : Demand1Open
unfolding open_of
demand_1_open image e =
    let same : open_of image ≡ record { answer = Err BadImage; log = log_of Failed 1 [] } =
    ap
    (λ (b : Bool).
    pick b (record { answer = Err BadImage; log = log_of Failed 1 [] }) (record { answer = all_done; log = log_from (scan_of 2 image) }))
    (eq-eqb (sectors_in (length image)) 0 e) in
    (ap (λ (o : Opened). number_of o.answer) same, ap (λ (o : Opened). o.log) same)
