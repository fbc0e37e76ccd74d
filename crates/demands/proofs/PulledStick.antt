-- The tries of a credential that is held: each call by the table that it decides on, and so over a session.
use Rattle.demands.specs.Calls.{anchor_raw}
use Rattle.std.specs.Prelude.{is_some, Option, Some, None}
use mathlib.Core.Path.{◌≡◌, refl, sym, ap, subst, ◌∙◌}
use mathlib.Core.Bool.{Bool, true, false, ◌&&◌, false≢true}
use mathlib.Core.List.{List, [], ◌∷◌}
use mathlib.Core.Logic.{◌⊎◌, inl, inr}
use Prim.Native.Nat.{ℕ, ◌+◌, ◌<◌}
use native.Mathlib.Omega.{arith}
use lib.Dec.{eqb}
use lib.ListN.{length}
use borrow.Author.Tests.{eqb-true}
use Rattle.basics.specs.Choice.{pick}
use Rattle.basics.specs.Answers.{is_done, Answer}
use Rattle.basics.proofs.ChoiceLaws.{first, second, by_test}
use Rattle.ids.specs.declared.CounterState.{CounterState}
use Rattle.ids.specs.declared.Anchor.{Anchor}
use Rattle.ids.specs.Ids.{counter_tag, value_tag, anchor_tag, lamport, is_credential}
use Rattle.ids.specs.Counters.{remaining_of, one_more, reset_of}
use Rattle.ids.proofs.IdsLaws.{remaining_reset, failure_takes_one}
use Rattle.codec.specs.declared.Raw.{Raw}
use Rattle.bodies.specs.Bodies.{counter_record, value_record, anchor_body}
use Rattle.bodies.proofs.BodiesRoundTrip.{counter-read}
use Rattle.flash.specs.declared.Plan.{Plan}
use Rattle.flash.specs.Image.{sectors_in}
use Rattle.flash.specs.Run.{Flash}
use Rattle.records.specs.declared.State.{State}
use Rattle.records.specs.declared.State.TheVariants.{Unformatted, Failed, Active}
use Rattle.records.specs.declared.Log.{Log}
use Rattle.records.specs.Table.{has_key, holds, joined, held_of}
use Rattle.records.specs.Logs.{records_of}
use Rattle.scan.specs.Opening.{open_of}
use Rattle.decisions.specs.declared.Decision.{Decision}
use Rattle.decisions.specs.Decisions.{when_active, give, write, anchor_decision, writes_record, record_in, answer_in}
use Rattle.reads.specs.Entering.{entry_answer, room_for}
use Rattle.decisions.specs.declared.seeds.Seed.{Seed}
use Rattle.decisions.specs.Seeds.{seeds_known, seed_table}
use Rattle.decisions.specs.Outcomes.{Outcome, flash_of, refused, entered}
use Rattle.decisions.specs.Performing.{decided}
use Rattle.counter_log.specs.Calls.{anchor_call, anchored, put_anchor_of, format_on, format_of}
use Rattle.tries.specs.Tries.{start_of, spend_decision, set_decision, set_of, seen_of}
use Rattle.demands.specs.Chance.{Unmatched}
use Rattle.demands.specs.Seen.{seen, Table, holding, table_in, table_of}
use Rattle.demands.specs.Typed.{TypedAnchor}
use Rattle.demands.specs.Calls.{Call, put, put-value, put-anchor, format, spend, set-tries, advance_lamport, outcome_of, Typed}
use Rattle.demands.specs.Calls.{record_of, anchor_to, appends_to}
use Rattle.demands.specs.Sessions.{World, opened, Made, outcome, afterwards, played, AllTyped, Lasts, now}
use Rattle.demands.specs.Figures.{decision_of}
use Rattle.demands.specs.PulledStick.{woken, Lucky, Remain, Has, a_set, KeepsSet, sets, begun, LeavesTries, NoneSets, begun_in}
use Rattle.demands.specs.PulledStick.{Between, Finds, PulledSet, PulledOther, PulledSession}
use Rattle.demands.proofs.Invariant.{Found, Inv, inv_open, open_inv}
use Rattle.demands.proofs.SafePerforming.{Always, WakesUp, SafeCall, lasted, stopped, refusal-safe, decided_table}
use Rattle.demands.proofs.CallsDeciding.{Decided, refuses, gives, writes, Sound, put-decided, value-decided}
use Rattle.demands.proofs.CallsDeciding.{anchor-decided, anchor-sound}
use Rattle.demands.proofs.CallsTrying.{spend-decided, set_decided, advance_decided, set-sound}
use Rattle.demands.proofs.SafeCalls.{keyed-decided}
use Rattle.demands.proofs.Demand3.{Agree, played-agrees, session_agrees}
use Rattle.demands.proofs.PulledStickSpends.{join_held, join_other, records_in, shown_records, spend-writes, keyed-answered}
use Rattle.demands.proofs.CallsShapes.{Shape, by_kind}

-- ---- the records that are found
reopened : (image : List ℕ) (log : Log) → Inv image log → records_of (open_of image).log ≡ records_of log
reopened image log i =
    shown_records image (open_of image).log (open_inv image i.agrees.bytes)
    ∙ ap records_in (ap table_in (inv_open image log i).0)
    ∙ sym (shown_records image log i)

-- what holds of the records before a safe call and of those after it
module _ (image : List ℕ) (log : Log) (i : Inv image log) (P : List Raw → Type 0) (n : ℕ) (C : List ℕ → Type 0) (later : Table) (o : Outcome) where
  abbrev Safely : Type 0
  Safely = SafeCall n C (λ z. z ≡ seen log) later o

  as_before : (left : List ℕ) (x : Log) → Inv left x → seen x ≡ seen log → P (records_of log) → P (records_of x)
  as_before left x j e = subst P (shown_records image log i ∙ ap records_in (ap table_in (sym e)) ∙ sym (shown_records left x j))

  as_later : (left : List ℕ) (x : Log) → Inv left x → table_of x ≡ later → P (records_in later) → P (records_of x)
  as_later left x j e = subst P (sym (shown_records left x j ∙ ap records_in e))

  -- holds of the log that is handed back while power lasts
  safe-on : Safely → o.flash.cut ≡ false → P (records_of log) → P (records_in later) → P (records_of o.log)
  safe-on (lasted on z j (inl d)) e p q = as_later o.flash.image o.log j d.1 q
  safe-on (lasted on z j (inr d)) e p q = as_before o.flash.image o.log j d.1 p
  safe-on (stopped c k u) e p q = absurd (false≢true (sym e ∙ c.marked))

  -- of the log that is found, cut or not
  safe-found : Safely → (o.flash.cut ≡ true → C o.flash.image) → P (records_of log) → P (records_in later)
      → P (records_of (open_of o.flash.image).log)
  safe-found (lasted on z j d) lucky p q = subst P (sym (reopened o.flash.image o.log j)) (safe-on (lasted on z j d) on p q)
  safe-found (stopped c k u) lucky p q = wakes (u (lucky c.marked))
    where
      wakes : WakesUp (λ z. z ≡ seen log) later o.flash.image → P (records_of (open_of o.flash.image).log)
      wakes v = subst P (sym (reopened o.flash.image v.log v.inv)) (shown v.shows)
        where
          shown : (seen v.log ≡ seen log) ⊎ (table_of v.log ≡ later) → P (records_of v.log)
          shown (inl a) = as_before o.flash.image v.log v.inv a p
          shown (inr a) = as_later o.flash.image v.log v.inv a q

  -- and of the one that is found after an answer 0
  safe-done : Safely → is_done o.answer ≡ true → P (records_in later) → P (records_of (open_of o.flash.image).log)
  safe-done (lasted on z j (inl d)) e q = subst P (sym (reopened o.flash.image o.log j)) (as_later o.flash.image o.log j d.1 q)
  safe-done (lasted on z j (inr d)) e q = absurd (false≢true (sym d.0 ∙ e))
  safe-done (stopped c k u) e q = absurd (false≢true (sym k ∙ e))

-- ---- on an Active log every call comes to what it decides
module _ (image : List ℕ) (log : Log) (i : Inv image log) where
  abbrev n : ℕ
  n = sectors_in (length image)

  abbrev t : List Raw
  t = records_of log

  module _ (s seq head : ℕ) (active : log.state ≡ Active s seq head) where
    abbrev Comes : (List ℕ → Type 0) → Decision → Outcome → Type 0
    Comes C d o = SafeCall n C (λ z. z ≡ seen log) (decided_table d log) o

    keyed_comes : (known : Bool) (tag id : ℕ) (d : Option Raw → Bool → Decision) (r : List Raw → Raw) → Sound tag id d r → (plan : Plan)
        → Comes (Unmatched log.state (r t)) (d (held_of tag id t) (room_for tag id t)) (entered image log plan known (decided tag id d))
    keyed_comes known tag id d r sound plan =
        subst
        (λ (z : State).
        Comes (Unmatched log.state (r t)) (when_active z (d (held_of tag id t) (room_for tag id t)))
        (entered image log plan known (decided tag id d)))
        active
        (keyed-decided image log i known tag id d r sound plan)

    anchor_comes : (new : Anchor) → TypedAnchor new → (plan : Plan)
        → Comes (Unmatched (anchor_to log.state image log plan) (anchor_raw new))
        (anchor_decision (held_of anchor_tag 0 t) (room_for anchor_tag 0 t) new) (put_anchor_of image log plan new)
    unfolding put_anchor_of entered
    anchor_comes new typed plan =
        let d = anchor_decision (held_of anchor_tag 0 t) (room_for anchor_tag 0 t) new in
        subst
        (λ (z : State).
        Comes (Unmatched (anchor_to z image log plan) (anchor_raw new)) d
        (entered image log plan true (λ (n : ℕ) (l : Log) (f : Flash). anchored z new n l f)))
        (sym active)
        (subst (λ (z : State). Comes (Unmatched z (anchor_raw new)) d (entered image log plan true (anchor_call new))) active
        (keyed_comes true anchor_tag 0 (λ (held : Option Raw) (room : Bool). anchor_decision held room new) (λ _. anchor_raw new)
        (anchor-sound new typed) plan))

    -- "format on a log that isn't Unformatted: 6"
    format_comes : (seeds : List Seed) (count : ℕ) (plan : Plan) → Comes Always (give 0) (format_of image log plan seeds count)
    unfolding format_of entered
    format_comes seeds count plan =
        subst
        (λ (z : State).
        Comes Always (give 0)
        (pick (is_done a) (format_on z (seed_table seeds count) n log (flash_of image plan)) (refused a log (flash_of image plan))))
        (sym active)
        (by_test (Comes Always (give 0)) (is_done a) _ _ (λ _. refusal-safe Always (λ z. z ≡ seen log) _ refl i refl (table_of log) refl)
        (λ e. refusal-safe Always (λ z. z ≡ seen log) (refused a log (flash_of image plan)) refl i refl (table_of log) e))
      where
        a : Answer
        a = entry_answer n log (seeds_known seeds count)

    call_comes : (c : Call) → Typed c → (plan : Plan)
        → Comes (Unmatched (appends_to c image log plan) (record_of c t)) (decision_of c t) (outcome_of c image log plan)
    call_comes =
        by_kind
        (λ (x : Shape).
        x.typed → (plan : Plan)
        → Comes (Unmatched (x.appends image log plan) (x.writes t)) (x.decision t) (x.outcome image log plan))
        (λ typed known tag id d r m k plan. keyed_comes known tag id d r (m.sound k) plan) anchor_comes
        (λ seeds count typed plan. format_comes seeds count plan)

  -- ---- a credential
  by-decision : (P : List Raw → Type 0) (room : Bool) (r : Raw) (Q : Type 0) (d : Decision) → Decided room r Q d → P t → P (joined r t)
      → P (records_in (decided_table d log))
  by-decision P room r Q d (refuses x) p q = subst P (shown_records image log i) p
  by-decision P room r Q d (gives value) p q = subst P (shown_records image log i) p
  by-decision P room r Q d (writes value h k) p q = q

  decided-rec : (room : Bool) (r : Raw) (Q : Type 0) (d : Decision) → Decided room r Q d → writes_record d ≡ true → record_in d ≡ r
  decided-rec room r Q d (refuses x) e = absurd (false≢true e)
  decided-rec room r Q d (gives value) e = absurd (false≢true e)
  decided-rec room r Q d (writes value h k) e = refl

  record-in : (o : Option Raw) → is_some o ≡ true → (r : Raw) × (o ≡ Some r)
  record-in None e = absurd (false≢true e)
  record-in (Some r) e = (r, refl)

  module _ (credential : ℕ) where
    abbrev held_in : List Raw → Option Raw
    held_in u = held_of counter_tag credential u

    -- a counter of the credential that joined
    own-remain : (s : CounterState) → Remain (remaining_of s) (held_in (joined (counter_record credential s) t))
    own-remain s = subst (Remain (remaining_of s)) (sym (join_held (counter_record credential s) t))
        (counter_record credential s, refl, ap remaining_of (counter-read s))

    -- ---- a set leads to the counter from before or to the new number, and to the latter where it answers 0
    module _ (new : ℕ) where
      abbrev s : CounterState
      s = start_of (held_in t) new

      abbrev d : Decision
      d = set_decision (held_in t) (room_for counter_tag credential t) credential new

      reset_remain : (r : Raw) → r ≡ counter_record credential (reset_of s new) → Remain new (held_in (joined r t))
      reset_remain r e =
          subst (λ (x : Raw). Remain new (held_in (joined x t))) (sym e)
          (subst (λ (m : ℕ). Remain m (held_in (joined (counter_record credential (reset_of s new)) t))) (remaining_reset s new)
          (own-remain (reset_of s new)))

      set-remain : (z : State) → writes_record (when_active z d) ≡ true → Remain new (held_in (joined (record_in (when_active z d)) t))
      set-remain Unformatted e = absurd (false≢true e)
      set-remain Failed e = absurd (false≢true e)
      set-remain (Active sector seq head) e =
          reset_remain (record_in d) (decided-rec _ _ _ d (set_decided (held_in t) (room_for counter_tag credential t) credential new) e)

      set-either : (z : State)
          → (held_in (records_in (decided_table (when_active z d) log)) ≡ held_in t)
          ⊎ Remain new (held_in (records_in (decided_table (when_active z d) log)))
      set-either z = go (writes_record (when_active z d)) refl
        where
          go : (b : Bool) → writes_record (when_active z d) ≡ b
              → (held_in (records_in (pick b (holding (joined (record_in (when_active z d)) t)) (table_of log))) ≡ held_in t)
              ⊎ Remain new (held_in (records_in (pick b (holding (joined (record_in (when_active z d)) t)) (table_of log))))
          go true e = inr (set-remain z e)
          go false e = inl (ap held_in (sym (shown_records image log i)))

      -- nothing is written where the record that is held says so already
      set-idle : writes_record d ≡ false → is_done (answer_in d) ≡ true → Remain new (held_in t)
      unfolding set_decision start_of
      set-idle = go (is_some (held_in t) && eqb (remaining_of s) new) refl
        where
          go : (b : Bool) → is_some (held_in t) && eqb (remaining_of s) new ≡ b
              → writes_record (pick b (give 0) (write (room_for counter_tag credential t) (counter_record credential (reset_of s new)) 0)) ≡ false
              → is_done (answer_in (pick b (give 0) (write (room_for counter_tag credential t) (counter_record credential (reset_of s new)) 0)))
              ≡ true
              → Remain new (held_in t)
          go true e w k =
              let held = record-in (held_in t) (first (is_some (held_in t)) (eqb (remaining_of s) new) e) in (
                held.0,
                held.1,
                sym (ap (λ (o : Option Raw). remaining_of (start_of o new)) held.1)
                    ∙ eqb-true (remaining_of s) new (second (is_some (held_in t)) (eqb (remaining_of s) new) e),
              )
          go false e w k =
              by_test (λ (x : Decision). writes_record x ≡ false → is_done (answer_in x) ≡ true → Remain new (held_in t)) (room_for counter_tag credential t) _ _
              (λ _ v. absurd (false≢true (sym v))) (λ _ _ v. absurd (false≢true v)) w k

      set-later : (z : State) → (writes_record (when_active z d) ≡ false → is_done (answer_in (when_active z d)) ≡ true)
          → Remain new (held_in (records_in (decided_table (when_active z d) log)))
      set-later Unformatted e = absurd (false≢true (e refl))
      set-later Failed e = absurd (false≢true (e refl))
      set-later (Active sector seq head) e = go (writes_record d) refl
        where
          go : (b : Bool) → writes_record d ≡ b → Remain new (held_in (records_in (pick b (holding (joined (record_in d) t)) (table_of log))))
          go true k = set-remain (Active sector seq head) k
          go false k = subst (λ (u : List Raw). Remain new (held_in u)) (shown_records image log i) (set-idle k (e k))

    module _ (tries : ℕ) (has : Has credential tries log) where
      -- only an Active log holds a record
      held-active : (s : ℕ) × (seq : ℕ) × (head : ℕ) × (log.state ≡ Active s seq head)
      unfolding held_of holds
      held-active = go log.state refl i.agrees.found
        where
          empty : t ≡ [] → ⊥
          empty e = false≢true (ap (λ (u : List Raw). is_some (held_of counter_tag credential u)) (sym e) ∙ ap (λ (o : Option Raw). is_some o) has.1)

          go : (z : State) → log.state ≡ z → Found z n image log.next_seq t
              → (s : ℕ) × (seq : ℕ) × (head : ℕ) × (log.state ≡ Active s seq head)
          go Unformatted e f = absurd (empty f.0)
          go Failed e f = absurd (empty f.0)
          go (Active s seq head) e f = (s, seq, head, e)

      held_comes : (c : Call) → Typed c → (plan : Plan)
          → SafeCall n (Unmatched (appends_to c image log plan) (record_of c t)) (λ z. z ≡ seen log) (decided_table (decision_of c t) log)
          (outcome_of c image log plan)
      held_comes = let a = held-active in call_comes a.0 a.1 a.2 a.3

      -- the caller's number is not looked at
      start-tries : (fresh : ℕ) → remaining_of (start_of (held_in t) fresh) ≡ tries
      unfolding start_of
      start-tries fresh = ap (λ (o : Option Raw). remaining_of (start_of o fresh)) has.1 ∙ has.2

      -- ---- any other call leads to the tries from before, a spend to these or one fewer
      unspent : (spends : ℕ) → Between tries spends (held_in t)
      unspent spends = record { left = tries; remain = has; none_back = omega arith; none_lost = omega arith }

      other-later : (room : Bool) (r : Raw) (Q : Type 0) (d : Decision) → Decided room r Q d → has_key counter_tag credential r ≡ false
          → Between tries 0 (held_in (records_in (decided_table d log)))
      other-later room r Q d made apart =
          by-decision (λ (u : List Raw). Between tries 0 (held_in u)) room r Q d made (unspent 0)
          (subst (Between tries 0) (sym (join_other r counter_tag credential apart t)) (unspent 0))

      own-later : (current : ℕ)
          → Between tries 1
          (held_in (records_in (decided_table (spend_decision (held_in t) (room_for counter_tag credential t) credential current) log)))
      own-later current = go (writes_record d) refl
        where
          d : Decision
          d = spend_decision (held_in t) (room_for counter_tag credential t) credential current

          s : CounterState
          s = start_of (held_in t) current

          go : (b : Bool) → writes_record d ≡ b → Between tries 1 (held_in (records_in (pick b (holding (joined (record_in d) t)) (table_of log))))
          go true e =
              let w = spend-writes credential current t e in
              let one = failure_takes_one s w.0 in
              let all = start-tries current in
              subst (λ (r : Raw). Between tries 1 (held_in (joined r t))) (sym w.1)
              (record { left = remaining_of (one_more s); remain = own-remain (one_more s); none_back = omega arith; none_lost = omega arith })
          go false e = subst (λ (u : List Raw). Between tries 1 (held_in u)) (shown_records image log i) (unspent 1)

      call-later : (c : Call) → sets credential c ≡ false
          → Between tries (begun credential c) (held_in (records_in (decided_table (decision_of c t) log)))
      call-later (put other new) apart =
          other-later _ (counter_record other new) _ _ (put-decided (held_of counter_tag other t) (room_for counter_tag other t) other new) apart
      call-later (put-value id new) apart =
          other-later _ (value_record id new) _ _
          (value-decided (held_of value_tag id t) (room_for value_tag id t) id new) refl
      call-later (put-anchor new) apart =
          other-later _ (record { tag = anchor_tag; id = 0; body = anchor_body new }) _ _
          (anchor-decided (held_of anchor_tag 0 t) (room_for anchor_tag 0 t) new) refl
      call-later (format seeds count) apart = subst (λ (u : List Raw). Between tries 0 (held_in u)) (shown_records image log i) (unspent 0)
      call-later (spend other current) apart = go (eqb other credential) refl
        where
          go : (b : Bool) → eqb other credential ≡ b
              → Between tries (pick b 1 0)
              (held_in
              (records_in
              (decided_table (spend_decision (held_of counter_tag other t) (room_for counter_tag other t) other current) log)))
          go true e =
              subst
              (λ (x : ℕ).
              Between tries 1
              (held_in (records_in (decided_table (spend_decision (held_of counter_tag x t) (room_for counter_tag x t) x current) log))))
              (sym (eqb-true other credential e)) (own-later current)
          go false e =
              other-later _ (counter_record other (one_more (start_of (held_of counter_tag other t) current))) _ _
              (spend-decided (room_for counter_tag other t) other (start_of (held_of counter_tag other t) current)) e
      call-later (set-tries other new) apart =
          other-later _ (counter_record other (reset_of (start_of (held_of counter_tag other t) new) new)) _ _
          (set_decided (held_of counter_tag other t) (room_for counter_tag other t) other new) apart
      call-later (advance_lamport latest) apart =
          other-later _ (value_record lamport (seen_of (held_of value_tag lamport t) latest + 1)) _ _
          (advance_decided (held_of value_tag lamport t) (room_for value_tag lamport t) latest) refl

-- ---- one call more
module _ (w : World) (i : Agree w) (credential new : ℕ) (fits : credential < 256) (small : new < 256) (plan : Plan) where
  abbrev m : Made
  m = a_set credential new plan

  abbrev before : List Raw
  before = records_of w.log

  abbrev comes_to : Option Raw → Bool → Decision
  comes_to held room = set_decision held room credential new

  set-safe : SafeCall (sectors_in (length w.image)) (Unmatched w.log.state (record_of m.call before)) (λ z. z ≡ seen w.log)
      (decided_table (when_active w.log.state (comes_to (held_of counter_tag credential before) (room_for counter_tag credential before)))
      w.log)
      (outcome m w)
  unfolding set_of
  set-safe =
      keyed-decided w.image w.log i (is_credential credential) counter_tag credential comes_to
      (λ t. counter_record credential (reset_of (start_of (held_of counter_tag credential t) new) new)) (set-sound credential new fits small) plan

  pub set_keeps : KeepsSet w credential new plan
  unfolding set_of
  set_keeps = record {
    either = λ lucky.
        safe-found w.image w.log i
        (λ (u : List Raw).
        (held_of counter_tag credential u ≡ held_of counter_tag credential before) ⊎ Remain new (held_of counter_tag credential u))
        _ _ _ (outcome m w) set-safe lucky (inl refl)
        (set-either w.image w.log i credential new w.log.state);
    success = λ e.
        safe-done w.image w.log i (λ (u : List Raw). Remain new (held_of counter_tag credential u)) _ _ _ (outcome m w) set-safe e
        (set-later w.image w.log i credential new w.log.state
        (keyed-answered w.image w.log plan (is_credential credential) counter_tag credential comes_to e));
  }

module _ (w : World) (i : Agree w) (credential tries : ℕ) (has : Has credential tries w.log) where
  module _ (m : Made) (typed : Typed m.call) (apart : sets credential m.call ≡ false) where
    call-on : (outcome m w).flash.cut ≡ false → Finds credential tries (begun credential m.call) (outcome m w).log
    call-on on =
        safe-on w.image w.log i (λ (u : List Raw). Between tries (begun credential m.call) (held_of counter_tag credential u)) _ _ _
        (outcome m w)
        (held_comes w.image w.log i credential tries has m.call typed m.plan) on
        (unspent w.image w.log i credential tries has (begun credential m.call))
        (call-later w.image w.log i credential tries has m.call apart)

    pub call-found : Lucky w m → Finds credential tries (begun credential m.call) (woken w m)
    call-found lucky =
        safe-found w.image w.log i (λ (u : List Raw). Between tries (begun credential m.call) (held_of counter_tag credential u)) _ _
        _ (outcome m w)
        (held_comes w.image w.log i credential tries has m.call typed m.plan) lucky
        (unspent w.image w.log i credential tries has (begun credential m.call))
        (call-later w.image w.log i credential tries has m.call apart)

  pub other-leaves : (m : Made) → Typed m.call → LeavesTries w m credential tries
  other-leaves m typed apart idle lucky =
      let found = call-found m typed apart lucky in
      let same : found.left ≡ tries = omega (arith, found.none_back, found.none_lost) in
      (found.remain.0, found.remain.1, found.remain.2 ∙ same)

-- ---- and so on
between_on : (tries j k : ℕ) (held x : Option Raw) → (b : Between tries j held) → Between b.left k x → Between tries (j + k) x
between_on tries j k held x b c =
    record {
      left = c.left;
      remain = c.remain;
      none_back = omega (arith, b.none_back, c.none_back);
      none_lost = omega (arith, b.none_lost, c.none_lost);
    }

played_between : (credential : ℕ) (ms : List Made) (w : World) → Agree w → AllTyped ms → Lasts ms w → NoneSets credential ms → (tries : ℕ)
    → Has credential tries w.log → Finds credential tries (begun_in credential ms) (played ms w).log
unfolding played AllTyped Lasts NoneSets begun_in
played_between credential [] w i typed lasts apart tries has = unspent w.image w.log i credential tries has 0
played_between credential (m ∷ ms) w i typed lasts apart tries has =
    let one = call-on w i credential tries has m typed.0 apart.0 lasts.0 in
    let agrees : Agree (afterwards (outcome m w)) = played-agrees (m ∷ []) w i (typed.0, tt) (lasts.0, tt) in
    between_on tries (begun credential m.call) (begun_in credential ms) _ _ one
    (played_between credential ms (afterwards (outcome m w)) agrees typed.1 lasts.1 apart.1 one.left one.remain)

-- ---- in any session
pub pulled-set : PulledSet
pulled-set image ms p = set_keeps (now image ms) (session_agrees image ms p)

pub pulled-other : PulledOther
pulled-other image ms p = other-leaves (now image ms) (session_agrees image ms p)

pub pulled_session : PulledSession
pulled_session image ms p credential tries has apart = record {
  powered =
      subst (λ (u : List Raw). Between tries (begun_in credential ms) (held_of counter_tag credential u))
      (sym (reopened (now image ms).image (now image ms).log agrees)) held;
  pulled =
      λ m fits kept lucky.
      between_on tries (begun_in credential ms) (begun credential m.call) _ _ held
      (call-found (now image ms) agrees credential held.left held.remain m fits kept lucky);
}
  where
    agrees : Agree (now image ms)
    agrees = session_agrees image ms p

    held : Finds credential tries (begun_in credential ms) (now image ms).log
    held = played_between credential ms (opened image) (open_inv image p.bytes) p.typed p.lasts apart tries has
