-- Every call is safe: tests first, then the decision or the format, and the table after it is the one that a healthy flash reaches.
use Rattle.std.specs.Prelude.{Result, is_ok, Option, Err}
use Rattle.basics.specs.declared.Refusal.{Refusal}
use Rattle.demands.specs.Calls.{anchor_raw}
use mathlib.Core.Path.{◌≡◌, refl, sym, ap, subst}
use mathlib.Core.Bool.{Bool, true, false, false≢true}
use mathlib.Core.List.{List, [], ◌∷◌}
use mathlib.Core.Logic.{inl, inr}
use Prim.Native.Nat.{ℕ, zero, suc, ◌≤◌}
use native.Mathlib.Omega.{arith}
use lib.Dec.{eqb, leb}
use lib.ListN.{length, take, length-take}
use borrow.Author.Tests.{eqb-true, leb-true}
use Rattle.basics.specs.Choice.{pick}
use Rattle.basics.specs.Answers.{is_done}
use Rattle.basics.specs.declared.Refusal.TheVariants.{NotFormatted}
use Rattle.basics.proofs.ChoiceLaws.{first, by_test}
use Rattle.ids.specs.declared.Anchor.{Anchor}
use Rattle.ids.specs.Ids.{anchor_tag}
use Rattle.codec.specs.declared.Raw.{Raw}
use Rattle.bodies.proofs.BodiesRoundTrip.{anchor-made}
use Rattle.flash.specs.declared.Plan.{Plan}
use Rattle.flash.specs.Image.{sectors_in}
use Rattle.flash.specs.Run.{Flash}
use Rattle.records.specs.declared.State.{State}
use Rattle.records.specs.declared.State.TheVariants.{Unformatted, Failed, Active}
use Rattle.records.specs.declared.Log.{Log}
use Rattle.records.specs.Table.{joined, held_of}
use Rattle.records.specs.Logs.{records_of}
use Rattle.decisions.specs.declared.Decision.{Decision}
use Rattle.decisions.specs.Decisions.{when_active, anchor_decision, writes_record, record_in}
use Rattle.reads.specs.Entering.{entry_answer, room_for}
use Rattle.reads.proofs.EnteringLaws.{let_in_by}
use Rattle.decisions.specs.declared.seeds.Seed.{Seed}
use Rattle.decisions.specs.Seeds.{all_known, seeds_known, seed_table}
use Rattle.decisions.specs.Outcomes.{Outcome, flash_of, refused, entered}
use Rattle.decisions.specs.Performing.{decided, formatted}
use Rattle.counter_log.specs.Calls.{is_first, anchor_call, anchored_first, anchored, put_anchor_of, format_on, format_of}
use Rattle.demands.specs.Chance.{Unmatched}
use Rattle.demands.specs.Healthy.{healthy}
use Rattle.demands.specs.Seen.{Seen, seen_by, seen, Table, holding, table_in, table_of}
use Rattle.demands.specs.Typed.{TypedAnchor, TypedSeeds}
use Rattle.demands.specs.Calls.{Call, outcome_of, Typed, table_after, AnchorNoEffect, NoEffect, record_of, anchor_to, appends_to}
use Rattle.demands.proofs.Tables.{Proper, proper-none, Writable}
use Rattle.demands.proofs.Invariant.{Inv}
use Rattle.demands.proofs.SafePerforming.{Always, SafeCall, refusal-safe, safe_weaker, WritesRecord, writes_writable, decided_table}
use Rattle.demands.proofs.SafePerforming.{performed-safe, formatted-safe}
use Rattle.demands.proofs.CallsAttaining.{Attains, attained, performed-attains, formatted-attains}
use Rattle.demands.proofs.SafeFirst.{OrEmpty, first-safe, first-attains}
use Rattle.demands.proofs.CallsDeciding.{Sound, anchor-writes, anchor-sound, anchor-first-writes, seeded-proper}
use Rattle.demands.proofs.CallsShapes.{Shape, by_kind}

-- ---- tests first
module _ (image : List ℕ) (log : Log) (i : Inv image log) (known : Bool) (call : ℕ → Log → Flash → Outcome) where
  abbrev n : ℕ
  n = sectors_in (length image)

  -- the call on any flash
  abbrev run : Flash → Outcome
  run f = pick (is_done (entry_answer n log known)) (call n log f) (refused (entry_answer n log known) log f)

  run-attains : (later : Table) → (is_done (entry_answer n log known) ≡ true → Attains image later (call n log)) → Attains image later run
  run-attains later attains = go (is_done (entry_answer n log known)) refl
    where
      go : (b : Bool) → is_done (entry_answer n log known) ≡ b
          → Attains image later (λ (f : Flash). pick b (call n log f) (refused (entry_answer n log known) log f))
      go true e = attains e
      go false e = inr (λ f. (refl, e))

  module _ (C : List ℕ → Type 0) (P : Seen → Type 0) (p : P (seen log)) (plan : Plan) (later : Table) where
    run-safe : (is_done (entry_answer n log known) ≡ true → SafeCall n C P later (call n log (flash_of image plan)))
        → SafeCall n C P later (run (flash_of image plan))
    run-safe safe =
        by_test (SafeCall n C P later) (is_done (entry_answer n log known)) _ _ safe
        (λ e. refusal-safe C P (refused (entry_answer n log known) log (flash_of image plan)) refl i p later e)

    -- a call is safe for the table that it comes to on a healthy flash
    pub entered-safe : (is_done (entry_answer n log known) ≡ true → SafeCall n C P later (call n log (flash_of image plan)))
        → (is_done (entry_answer n log known) ≡ true → Attains image later (call n log))
        → SafeCall n C P (table_of (entered image log healthy known call).log) (entered image log plan known call)
    unfolding entered
    entered-safe safe attains = attained n C P later image plan run (run-attains later attains) (run-safe safe)

-- ---- a call that decides on the record of a key
module _ (image : List ℕ) (log : Log) (i : Inv image log) where
  abbrev decision : (tag id : ℕ) → (Option Raw → Bool → Decision) → Decision
  decision tag id d = when_active log.state (d (held_of tag id (records_of log)) (room_for tag id (records_of log)))

  active-writes : (d : Decision) (r : Raw) → (writes_record d ≡ true → WritesRecord d r (records_of log)) → (z : State)
      → writes_record (when_active z d) ≡ true → WritesRecord (when_active z d) r (records_of log)
  active-writes d r sound Unformatted e = absurd (false≢true e)
  active-writes d r sound Failed e = absurd (false≢true e)
  active-writes d r sound (Active sector seq head) e = sound e

  module _ (known : Bool) (tag id : ℕ) (d : Option Raw → Bool → Decision) (r : List Raw → Raw) (sound : Sound tag id d r) where
    made-writes : writes_record (decision tag id d) ≡ true → WritesRecord (decision tag id d) (r (records_of log)) (records_of log)
    made-writes =
        active-writes (d (held_of tag id (records_of log)) (room_for tag id (records_of log))) (r (records_of log))
        (sound (records_of log) i.agrees.proper.whole) log.state

    decided-safe : (plan : Plan)
        → SafeCall (sectors_in (length image)) (Unmatched log.state (r (records_of log))) (λ z. z ≡ seen log)
        (decided_table (decision tag id d) log) (decided tag id d (sectors_in (length image)) log (flash_of image plan))
    decided-safe plan = performed-safe (flash_of image plan) log refl i (decision tag id d) (r (records_of log)) made-writes

    -- safe for the table that is decided on
    pub keyed-decided : (plan : Plan)
        → SafeCall (sectors_in (length image)) (Unmatched log.state (r (records_of log))) (λ z. z ≡ seen log)
        (decided_table (decision tag id d) log) (entered image log plan known (decided tag id d))
    unfolding entered
    keyed-decided plan =
        run-safe image log i known (decided tag id d) (Unmatched log.state (r (records_of log))) (λ z. z ≡ seen log) refl plan
        (decided_table (decision tag id d) log) (λ _. decided-safe plan)

    -- and for the table that a healthy flash reaches
    pub keyed-safe : (plan : Plan)
        → SafeCall (sectors_in (length image)) (Unmatched log.state (r (records_of log))) (λ z. z ≡ seen log)
        (table_of (entered image log healthy known (decided tag id d)).log) (entered image log plan known (decided tag id d))
    keyed-safe plan =
        entered-safe image log i known (decided tag id d) (Unmatched log.state (r (records_of log))) (λ z. z ≡ seen log) refl plan
        (decided_table (decision tag id d) log) (λ _. decided-safe plan)
        (λ _.
        performed-attains image log i (decision tag id d)
        (λ e. writes_writable (decision tag id d) (r (records_of log)) (records_of log) (made-writes e)))

  -- ---- format
  typed-take : (k : ℕ) (seeds : List Seed) → TypedSeeds seeds → TypedSeeds (take k seeds)
  unfolding TypedSeeds
  typed-take zero seeds typed = tt
  typed-take (suc k) [] typed = tt
  typed-take (suc k) (s ∷ seeds) typed = (typed.0, typed.1, typed-take k seeds typed.2)

  pub seeds_proper : (seeds : List Seed) (count : ℕ) → TypedSeeds seeds → seeds_known seeds count ≡ true → Proper (seed_table seeds count)
  seeds_proper seeds count typed known =
      let few = leb-true count 8 (first (leb count 8) (all_known (take count seeds)) known) in
      let most : length (take count seeds) ≤ 8 = simp length-take (omega arith) in
      seeded-proper (take count seeds) [] (typed-take count seeds typed) (omega arith) proper-none

  pub format-safe : (seeds : List Seed) (count : ℕ) → TypedSeeds seeds → (plan : Plan)
      → SafeCall (sectors_in (length image)) Always (λ z. z ≡ seen log) (table_of (format_of image log healthy seeds count).log)
      (format_of image log plan seeds count)
  unfolding format_of
  format-safe seeds count typed plan =
      entered-safe image log i (seeds_known seeds count) (λ (n : ℕ) (l : Log) (f : Flash). format_on l.state t n l f) Always
      (λ z. z ≡ seen log) refl plan (holding t)
      (λ e. safe (seeds_proper seeds count typed (known e)) log.state refl)
      (λ e. attains (seeds_proper seeds count typed (known e)) log.state refl)
    where
      t : List Raw
      t = seed_table seeds count

      known : is_done (entry_answer (sectors_in (length image)) log (seeds_known seeds count)) ≡ true → seeds_known seeds count ≡ true
      known e = (let_in_by (sectors_in (length image)) log (seeds_known seeds count) e).2

      safe : Proper t → (z : State) → log.state ≡ z
          → SafeCall (sectors_in (length image)) Always (λ x. x ≡ seen log) (holding t)
          (format_on z t (sectors_in (length image)) log (flash_of image plan))
      safe proper Unformatted e = formatted-safe (flash_of image plan) log refl i e t proper
      safe proper Failed e = refusal-safe Always (λ x. x ≡ seen log) _ refl i refl (holding t) refl
      safe proper (Active sector seq head) e = refusal-safe Always (λ x. x ≡ seen log) _ refl i refl (holding t) refl

      attains : Proper t → (z : State) → log.state ≡ z → Attains image (holding t) (format_on z t (sectors_in (length image)) log)
      attains proper Unformatted e = formatted-attains image log i e t proper
      attains proper Failed e = inr (λ f. (refl, refl))
      attains proper (Active sector seq head) e = inr (λ f. (refl, refl))

  -- ---- put_anchor
  module _ (new : Anchor) (typed : TypedAnchor new) where
    abbrev r : Raw
    r = anchor_raw new

    abbrev deciding : Log → Decision
    deciding l = when_active l.state (anchor_decision (held_of anchor_tag 0 (records_of l)) (room_for anchor_tag 0 (records_of l)) new)

    -- the first anchor has head_seq 0, and so a record
    first-writes : is_first new ≡ true → (l : Log) → table_of l ≡ holding [] → (writes_record (deciding l) ≡ true) × (record_in (deciding l) ≡ r)
    first-writes f l e = go l.state e
      where
        made : (t : List Raw) → t ≡ []
            → (writes_record (anchor_decision (held_of anchor_tag 0 t) (room_for anchor_tag 0 t) new) ≡ true)
            × (record_in (anchor_decision (held_of anchor_tag 0 t) (room_for anchor_tag 0 t) new) ≡ r)
        made t z =
            let zero-seq = eqb-true new.head_seq 0 (first (eqb new.head_seq 0) (eqb new.head_slot 0) f) in
            subst
            (λ (x : List Raw).
            (writes_record (anchor_decision (held_of anchor_tag 0 x) (room_for anchor_tag 0 x) new) ≡ true)
            × (record_in (anchor_decision (held_of anchor_tag 0 x) (room_for anchor_tag 0 x) new) ≡ r))
            (sym z)
            (anchor-first-writes new (ap (λ (m : Result Raw Refusal). is_ok m) (anchor-made new (omega arith))))

        go : (z : State) → table_in (seen_by z (records_of l)) ≡ holding []
            → (writes_record (when_active z (anchor_decision (held_of anchor_tag 0 (records_of l)) (room_for anchor_tag 0 (records_of l)) new)) ≡ true)
            × (record_in (when_active z (anchor_decision (held_of anchor_tag 0 (records_of l)) (room_for anchor_tag 0 (records_of l)) new)) ≡ r)
        go Unformatted z = let never : ◌≡◌ {A = ℕ} 0 1 = cc in absurd (omega arith)
        go Failed z = let never : ◌≡◌ {A = ℕ} 0 1 = cc in absurd (omega arith)
        go (Active sector seq head) z = made (records_of l) cc

    sound : (l : Log) → writes_record (deciding l) ≡ true → Writable (record_in (deciding l)) (records_of l)
    sound l e = go l.state e
      where
        made : Decision
        made = anchor_decision (held_of anchor_tag 0 (records_of l)) (room_for anchor_tag 0 (records_of l)) new

        go : (z : State) → writes_record (when_active z made) ≡ true → Writable (record_in (when_active z made)) (records_of l)
        go Unformatted z = absurd (false≢true z)
        go Failed z = absurd (false≢true z)
        go (Active sector seq head) z = writes_writable made r (records_of l) (anchor-writes new typed (records_of l) z)

    module _ (plan : Plan) where
      -- the call by the state of the log
      abbrev by : State → ℕ → Log → Flash → Outcome
      by z n l f = anchored z new n l f

      abbrev Holds : State → Type 0
      Holds z =
          SafeCall (sectors_in (length image)) (Unmatched (anchor_to z image log plan) r) (AnchorNoEffect z new log)
          (table_of (entered image log healthy true (by z)).log) (entered image log plan true (by z))

      state_says : (z : State) → log.state ≡ z → Holds z
      unfolding anchored_first
      state_says Unformatted e = go (is_first new) refl
        where
          n : ℕ
          n = sectors_in (length image)

          C : List ℕ → Type 0
          C = Unmatched (formatted [] n log (flash_of image plan)).log.state r

          own : is_first new ≡ true → (z : Seen) → OrEmpty log z → AnchorNoEffect Unformatted new log z
          own f z (inl k) = inl k
          own f z (inr k) = inr (f, k)

          call : Bool → ℕ → Log → Flash → Outcome
          call b n l f = pick b (anchored_first new n (formatted [] n l f)) (refused (Err NotFormatted) l f)

          go : (b : Bool) → is_first new ≡ b
              → SafeCall n C (AnchorNoEffect Unformatted new log) (table_of (entered image log healthy true (call b)).log)
              (entered image log plan true (call b))
          go true f =
              safe_weaker n C C (OrEmpty log) (AnchorNoEffect Unformatted new log) _ _ (λ _ u. u) (own f)
              (entered-safe image log i true (call true) C (OrEmpty log) (inl refl) plan (holding (joined r []))
              (λ _. first-safe deciding sound r (first-writes f) log e (flash_of image plan) refl i)
              (λ _. first-attains deciding sound r (first-writes f) log e image i))
          go false f =
              entered-safe image log i true (call false) C (AnchorNoEffect Unformatted new log) (inl refl) plan (table_of log)
              (λ _. refusal-safe C (AnchorNoEffect Unformatted new log) _ refl i (inl refl) (table_of log) refl) (λ _. inr (λ g. (refl, refl)))
      state_says Failed e =
          entered-safe image log i true (by Failed) Always (λ x. x ≡ seen log) refl plan (table_of log)
          (λ _. refusal-safe Always (λ x. x ≡ seen log) _ refl i refl (table_of log) refl) (λ _. inr (λ g. (refl, refl)))
      state_says (Active sector seq head) e =
          let keyed =
          keyed-safe true anchor_tag 0 (λ (held : Option Raw) (room : Bool). anchor_decision held room new) (λ t. r) (anchor-sound new typed)
          plan in
          subst
          (λ (z : State).
          SafeCall (sectors_in (length image)) (Unmatched z r) (λ x. x ≡ seen log)
          (table_of (entered image log healthy true (anchor_call new)).log) (entered image log plan true (anchor_call new)))
          e keyed

    pub anchor-safe : (plan : Plan)
        → SafeCall (sectors_in (length image)) (Unmatched (anchor_to log.state image log plan) r) (AnchorNoEffect log.state new log)
        (table_of (put_anchor_of image log healthy new).log) (put_anchor_of image log plan new)
    unfolding put_anchor_of entered
    anchor-safe plan = state_says plan log.state refl

-- ---- every call
pub call-safe : (image : List ℕ) (log : Log) → Inv image log → (c : Call) → Typed c → (plan : Plan)
    → SafeCall (sectors_in (length image)) (Unmatched (appends_to c image log plan) (record_of c (records_of log))) (NoEffect c log)
    (table_after c image log) (outcome_of c image log plan)
call-safe image log i =
    by_kind (λ (x : Shape). x.typed → (plan : Plan)
    → SafeCall (sectors_in (length image)) (Unmatched (x.appends image log plan) (x.writes (records_of log))) (x.left log)
    (table_of (x.outcome image log healthy).log) (x.outcome image log plan))
    (λ typed known tag id d r m t plan. keyed-safe image log i known tag id d r (m.sound t) plan) (anchor-safe image log i) (format-safe image log i)
