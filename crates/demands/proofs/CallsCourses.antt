-- The course of any call, with any arguments on any image, log and plan: a refusal, an answer without a write, an append, a format, or a
-- first anchor.
use Rattle.std.specs.Prelude.{Result, is_ok, Option, Err}
use Rattle.basics.specs.declared.Refusal.{Refusal}
use Rattle.demands.specs.Calls.{anchor_raw}
use Rattle.basics.specs.Answers.{all_done, is_done, Answer}
use mathlib.Core.Path.{◌≡◌, refl, sym, ap, subst, ◌∙◌}
use mathlib.Core.Bool.{Bool, true, false, false≢true}
use mathlib.Core.List.{List, []}
use mathlib.Core.Logic.{inr}
use Prim.Native.Nat.{ℕ, zero, suc, ◌+◌, ◌≤◌, ◌<◌}
use native.Mathlib.Omega.{arith}
use lib.Dec.{eqb, leb}
use lib.ListN.{length, take, length-take}
use borrow.Author.Tests.{eqb-true, leb-true}
use Rattle.basics.specs.Choice.{pick}
use Rattle.basics.specs.declared.Refusal.TheVariants.{NotFormatted, ReadError, WriteError}
use Rattle.basics.proofs.ChoiceLaws.{first, by_test}
use Rattle.ids.specs.declared.Anchor.{Anchor}
use Rattle.ids.specs.Ids.{anchor_tag}
use Rattle.codec.specs.declared.Raw.{Raw}
use Rattle.bodies.specs.Bodies.{anchor_body}
use Rattle.bodies.proofs.BodiesRoundTrip.{anchor-made}
use Rattle.flash.specs.declared.Plan.{Plan}
use Rattle.flash.specs.Image.{sectors_in}
use Rattle.flash.specs.Run.{Flash}
use Rattle.records.specs.declared.State.{State}
use Rattle.records.specs.declared.State.TheVariants.{Unformatted, Failed, Active}
use Rattle.records.specs.declared.Log.{Log}
use Rattle.records.specs.Table.{limit, joined, has_room, held_of}
use Rattle.records.specs.Logs.{log_of, records_of}
use Rattle.records.specs.Fitting.{log_fits, seq_max}
use Rattle.sectors.specs.Sectors.{write_sector}
use Rattle.sectors.specs.Commits.{Written, sector_after, commit_from, commit_first}
use Rattle.sectors.specs.Appends.{append_of}
use Rattle.sectors.proofs.SectorsTurns.{after-within}
use Rattle.decisions.specs.declared.Decision.{Decision}
use Rattle.decisions.specs.Decisions.{when_active, anchor_decision, record_in, reply_in}
use Rattle.decisions.proofs.PerformingLaws.{performed-writes}
use Rattle.reads.specs.Entering.{entry_answer, room_for}
use Rattle.reads.proofs.EnteringLaws.{let_in_by}
use Rattle.decisions.specs.declared.seeds.Seed.{Seed}
use Rattle.decisions.specs.Seeds.{all_known, seeds_known, seed_table}
use Rattle.decisions.proofs.SeedsLaws.{seeded-most}
use Rattle.decisions.specs.Outcomes.{Outcome, flash_of, refused, entered}
use Rattle.decisions.specs.Performing.{written_outcome, appended, performed, decided}
use Rattle.counter_log.specs.Calls.{is_first, anchor_call, anchored_first, anchored, put_anchor_of, format_on, format_of}
use Rattle.demands.specs.Seen.{Seen, seen, holding, table_in}
use Rattle.demands.specs.Calls.{Call, outcome_of, AnchorNoEffect, NoEffect}
use Rattle.demands.proofs.Endings.{Fails}
use Rattle.demands.proofs.CallsDeciding.{Decided, refuses, gives, writes, anchor-decided, anchor-first-writes}
use Rattle.demands.proofs.CallsShapes.{Shape, Decides, by_kind}

-- a commit that is done leaves an Active state in the image, with head behind the records
pub record Fresh (n : ℕ) (t : List Raw) (w : Written) : Type 0 where
  pub sector : ℕ
  pub seq : ℕ
  pub within : sector < n
  pub state-is : w.state ≡ Active sector seq (length t + 1)

pub commit_fresh : (m n a s : ℕ) (t : List Raw) (last : Answer) (state : State) (next : ℕ) (f : Flash) → s < n → Fails last
    → is_done (commit_from m n a s t last state next f).answer ≡ true → Fresh n t (commit_from m n a s t last state next f)
unfolding commit_from
commit_fresh zero n a s t last state next f within h = λ e. absurd (false≢true (sym h ∙ e))
commit_fresh (suc m) n a s t last state next f within h =
    by_test P (eqb s a) _ _ (λ _. commit_fresh m n a (sector_after n s) t last state next f (after-within n s within) h)
    (λ _. by_test P (eqb next seq_max) _ _ (λ _ e. absurd (false≢true e))
    (λ _. by_test P (is_done (write_sector s next t f).answer) _ _ (λ _ e. record { sector = s; seq = next; within = within; state-is = refl })
    (λ d.
    commit_fresh m n a (sector_after n s) t (write_sector s next t f).answer state (next + 1) (write_sector s next t f).flash
    (after-within n s within) d)))
  where
    P : Written → Type 0
    P w = is_done w.answer ≡ true → Fresh n t w

-- `L`: what the call may leave to be seen where it has no effect
module _ (image : List ℕ) (log : Log) (plan : Plan) (L : Seen → Type 0) where
  abbrev n : ℕ
  n = sectors_in (length image)

  abbrev f : Flash
  f = flash_of image plan

  abbrev t : List Raw
  t = records_of log

  abbrev next : ℕ
  next = log.next_seq

  -- the empty format of a first anchor
  abbrev emptied : Written
  emptied = commit_first n [] Unformatted next f

  -- the call may leave an empty log
  abbrev LeavesEmpty : Type 0
  LeavesEmpty = (z : Seen) → table_in z ≡ holding [] → L z

  pub data Course : Outcome → Type 0 where
    refusal : (a : Answer) → is_done a ≡ false → Course (refused a log f)
    given : (value : ℕ) → Course (record { answer = all_done; value = value; log = log; flash = f })
    appends : log_fits n log ≡ true → (s seq head : ℕ) → log.state ≡ Active s seq head → (r : Raw) (value : ℕ) → has_room limit r t ≡ true
        → Course (written_outcome (append_of n s seq head next r (joined r t) f) value (joined r t) t)
    formats : log_fits n log ≡ true → 0 < n → log.state ≡ Unformatted → (new : List Raw) → length new ≤ 8
        → Course (written_outcome (commit_first n new Unformatted next f) 0 new [])
    anchors : LeavesEmpty → log_fits n log ≡ true → 0 < n → log.state ≡ Unformatted → is_done emptied.answer ≡ true → (s seq : ℕ) → s < n
        → emptied.state ≡ Active s seq 1 → (r : Raw) (value : ℕ)
        → Course (written_outcome (append_of n s seq 1 emptied.next r (joined r []) emptied.flash) value (joined r []) [])

  -- ---- tests, then the rest
  entered_course : (known : Bool) (call : ℕ → Log → Flash → Outcome)
      → ((n ≡ 0 → ⊥) → log_fits n log ≡ true → known ≡ true → Course (call n log f)) → Course (entered image log plan known call)
  unfolding entered
  entered_course known call course =
      by_test Course (is_done (entry_answer n log known)) _ _
      (λ e. let passed = let_in_by n log known e in course passed.0 passed.1 passed.2)
      (λ e. refusal (entry_answer n log known) e)

  -- ---- a decision
  module _ (fits : log_fits n log ≡ true) (r : Raw) (Q : Type 0) (free : Bool) (room : free ≡ true → has_room limit r t ≡ true) where
    active_course : (s seq head : ℕ) → log.state ≡ Active s seq head → (d : Decision) → Decided free r Q d → Course (performed d n log f)
    unfolding performed
    active_course s seq head e d (refuses x) = refusal (Err x) refl
    active_course s seq head e d (gives value) = given value
    active_course s seq head e d (writes value k q) =
        subst (λ (z : State). Course (appended z n r value log f)) (sym e) (appends fits s seq head e r value (room k))

    performed_course : (z : State) → log.state ≡ z → (d : Decision) → Decided free r Q d → Course (performed (when_active z d) n log f)
    unfolding performed
    performed_course Unformatted e d made = refusal (Err NotFormatted) refl
    performed_course Failed e d made = refusal (Err ReadError) refl
    performed_course (Active s seq head) e d made = active_course s seq head e d made

  keyed_course : (typed : Type 0) (known : Bool) (tag id : ℕ) (d : Option Raw → Bool → Decision) (r : List Raw → Raw) → Decides typed tag id d r
      → Course (entered image log plan known (decided tag id d))
  keyed_course typed known tag id d r k =
      entered_course known (decided tag id d)
      (λ some fits _.
      performed_course fits (r t) (k.Q t) (room_for tag id t) (k.room t) log.state refl
      (d (held_of tag id t) (room_for tag id t)) (k.made t))

  -- ---- a format
  format_course : (seeds : List Seed) (count : ℕ) → Course (format_of image log plan seeds count)
  unfolding format_of
  format_course seeds count =
      entered_course (seeds_known seeds count) (λ (n : ℕ) (l : Log) (f : Flash). format_on l.state (seed_table seeds count) n l f)
      (λ some fits known.
      let few = leb-true count 8 (first (leb count 8) (all_known (take count seeds)) known) in
      let most : length (take count seeds) ≤ 8 = simp length-take (omega arith) in
      go fits (omega arith) (omega (arith, seeded-most (take count seeds) [])) log.state refl)
    where
      go : log_fits n log ≡ true → 0 < n → length (seed_table seeds count) ≤ 8 → (z : State) → log.state ≡ z
          → Course (format_on z (seed_table seeds count) n log f)
      go fits some few Unformatted e =
          subst (λ (z : State). Course (written_outcome (commit_first n (seed_table seeds count) z next f) 0 (seed_table seeds count) []))
          (sym e) (formats fits some e (seed_table seeds count) few)
      go fits some few Failed e = refusal (Err WriteError) refl
      go fits some few (Active s seq head) e = refusal (Err WriteError) refl

  -- ---- put_anchor
  module _ (new : Anchor) (may : is_first new ≡ true → log.state ≡ Unformatted → LeavesEmpty) where
    abbrev made : List Raw → Decision
    made u = anchor_decision (held_of anchor_tag 0 u) (room_for anchor_tag 0 u) new

    -- after its own format the first anchor is written into the first slot
    first_course : log_fits n log ≡ true → 0 < n → log.state ≡ Unformatted → is_first new ≡ true → is_done emptied.answer ≡ true
        → Course (performed (when_active emptied.state (made [])) n (log_of emptied.state emptied.next []) emptied.flash)
    unfolding performed
    first_course fits some e firstly d =
        let fresh = commit_fresh n n n 0 [] (Err WriteError) Unformatted next f some refl d in
        let zero-seq = eqb-true new.head_seq 0 (first (eqb new.head_seq 0) (eqb new.head_slot 0) firstly) in
        let writing = anchor-first-writes new (ap (λ (m : Result Raw Refusal). is_ok m) (anchor-made new (omega arith))) in
        subst (λ (z : State). Course (performed (when_active z (made [])) n (log_of z emptied.next []) emptied.flash)) (sym fresh.state-is)
        (subst Course (sym (performed-writes (made []) writing.0 n (log_of (Active fresh.sector fresh.seq 1) emptied.next []) emptied.flash))
        (anchors (may firstly e) fits some e d fresh.sector fresh.seq fresh.within fresh.state-is (record_in (made [])) (reply_in (made []))))

    anchored_course : 0 < n → log_fits n log ≡ true → (z : State) → log.state ≡ z → Course (anchored z new n log f)
    unfolding anchored_first room_for
    anchored_course some fits Unformatted e = by_test Course (is_first new) _ _ (λ k. by-format k) (λ _. refusal (Err NotFormatted) refl)
      where
        o : State → Outcome
        o z = written_outcome (commit_first n [] z next f) 0 [] []

        by-format : is_first new ≡ true
            → Course
            (pick (is_done (o log.state).answer) (anchor_call new n (o log.state).log (o log.state).flash) (o log.state))
        by-format k =
            subst (λ (z : State). Course (pick (is_done (o z).answer) (anchor_call new n (o z).log (o z).flash) (o z))) (sym e)
            (by_test Course (is_done emptied.answer) _ _
            (λ d.
            subst (λ (u : List Raw). Course (anchor_call new n (log_of emptied.state emptied.next u) emptied.flash))
            (sym (ap (λ (b : Bool). pick b [] []) d)) (first_course fits some e k d))
            (λ d. formats fits some e [] (omega arith)))
    anchored_course some fits Failed e = refusal (Err ReadError) refl
    anchored_course some fits (Active s seq head) e =
        performed_course fits (record { tag = anchor_tag; id = 0; body = anchor_body new })
        (anchor_raw new ≡ record { tag = anchor_tag; id = 0; body = anchor_body new }) (room_for anchor_tag 0 t) (λ k. k)
        log.state refl (made t)
        (anchor-decided (held_of anchor_tag 0 t) (room_for anchor_tag 0 t) new)

    anchor_course : Course (put_anchor_of image log plan new)
    unfolding put_anchor_of
    anchor_course =
        entered_course true (λ (n : ℕ) (l : Log) (f : Flash). anchored l.state new n l f)
        (λ some fits k. anchored_course (omega arith) fits log.state refl)

-- ---- every call
abbrev is_blank : State → Bool
is_blank Unformatted = true
is_blank Failed = false
is_blank (Active sector seq head) = false

-- a first anchor may leave an empty log
first-empty : (new : Anchor) (log : Log) (state : State) → is_first new ≡ true → state ≡ Unformatted → (z : Seen) → table_in z ≡ holding []
    → AnchorNoEffect state new log z
first-empty new log Unformatted k e z h = inr (k, h)
first-empty new log Failed k e z h = absurd (false≢true (ap is_blank e))
first-empty new log (Active sector seq head) k e z h = absurd (false≢true (ap is_blank e))

pub call_course : (image : List ℕ) (log : Log) (plan : Plan) (c : Call) → Course image log plan (NoEffect c log) (outcome_of c image log plan)
call_course image log plan =
    by_kind (λ (x : Shape). Course image log plan (x.left log) (x.outcome image log plan))
    (keyed_course image log plan (λ z. z ≡ seen log))
    (λ new. anchor_course image log plan (AnchorNoEffect log.state new log) new (first-empty new log log.state))
    (format_course image log plan (λ z. z ≡ seen log))
