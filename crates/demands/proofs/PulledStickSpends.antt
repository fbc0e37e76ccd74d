-- The tries after a spend, by the tables of before and after; and what is held of a key in a table that a record joined.
use Rattle.std.specs.Prelude.{Option, Some, None, Ok, Err}
use mathlib.Core.Path.{◌≡◌, refl, sym, ap, ap₂, ◌∙◌}
use mathlib.Core.Bool.{Bool, true, false, ◌&&◌, ◌||◌, false≢true}
use mathlib.Core.List.{List, [], ◌∷◌}
use mathlib.Core.Logic.{◌⊎◌, inl, inr}
use Prim.Native.Nat.{ℕ, suc, ◌+◌, ◌<◌}
use native.Mathlib.Omega.{arith}
use lib.Dec.{eqb}
use lib.ListN.{length, get_or}
use borrow.Author.Tests.{eq-eqb, ne_eqb, eqb-true, eqb-false}
use Rattle.basics.specs.Choice.{pick}
use Rattle.basics.specs.Answers.{is_done}
use Rattle.basics.specs.declared.Refusal.TheVariants.{WriteError}
use Rattle.basics.proofs.ChoiceLaws.{both, first, second, by_test}
use Rattle.ids.specs.declared.CounterState.{CounterState}
use Rattle.ids.specs.Ids.{counter_tag, is_credential}
use Rattle.ids.specs.Counters.{remaining_of, total_max, one_more, failed_of}
use Rattle.ids.proofs.IdsLaws.{failure_takes_one}
use Rattle.codec.specs.declared.Raw.{Raw}
use Rattle.codec.specs.Slots.{no_raw}
use Rattle.bodies.specs.Bodies.{counter_record}
use Rattle.bodies.proofs.BodiesRoundTrip.{counter-read}
use Rattle.flash.specs.declared.Plan.{Plan}
use Rattle.flash.specs.Image.{sectors_in}
use Rattle.records.specs.declared.State.{State}
use Rattle.records.specs.declared.State.TheVariants.{Unformatted, Failed, Active}
use Rattle.records.specs.declared.Log.{Log}
use Rattle.records.specs.Table.{has_key, same_key, place_of, holds, joined, held_of}
use Rattle.records.specs.Logs.{records_of}
use Rattle.decisions.specs.declared.Decision.{Decision}
use Rattle.decisions.specs.declared.Decision.TheVariants.{Refuse, Give, Write}
use Rattle.decisions.specs.Decisions.{when_active, give, writes_record, record_in, answer_in}
use Rattle.reads.specs.Entering.{room_for, entry_answer}
use Rattle.tries.specs.Tries.{start_of, spent_by, spend_from, spend_decision, spend_of}
use Rattle.demands.specs.Seen.{seen_by, Table, blank, broken, holding, table_in, table_of, seen}
use Rattle.demands.proofs.Invariant.{Found, Inv, inv_open, open_inv}
use Rattle.scan.specs.Opening.{open_of}
use Rattle.decisions.specs.Outcomes.{Outcome, flash_of, refused, entered}
use Rattle.decisions.specs.Performing.{performed, decided}
use Rattle.demands.specs.Chance.{Unmatched}
use Rattle.demands.specs.Sessions.{World, now}
use Rattle.demands.specs.PulledStick.{tries_in, KeepsTries, PulledSpend}
use Rattle.demands.proofs.CallsTrying.{spend-sound}
use Rattle.demands.proofs.SafeCalls.{keyed-decided}
use Rattle.demands.proofs.Demand3.{session_agrees}
use Rattle.demands.proofs.SafePerforming.{WakesUp, SafeCall, lasted, stopped, decided_table}

-- ---- a record that joined is the one held
own_key : (r : Raw) → has_key r.tag r.id r ≡ true
own_key r = both (eq-eqb r.tag r.tag refl) (eq-eqb r.id r.id refl)

module _ (r : Raw) where
  join_own : (t : List Raw) → holds r.tag r.id (joined r t) ≡ true
  unfolding joined holds
  join_own [] = ap (λ (b : Bool). b || false) (own_key r)
  join_own (e ∷ es) = go (join_own es) (same_key e r) refl
    where
      go : holds r.tag r.id (joined r es) ≡ true → (b : Bool) → same_key e r ≡ b
          → holds r.tag r.id (pick b (r ∷ es) (e ∷ joined r es)) ≡ true
      go ih true k = ap (λ (b : Bool). b || holds r.tag r.id es) (own_key r)
      go ih false k = ap (λ (b : Bool). b || holds r.tag r.id (joined r es)) k ∙ ih

  join_at : (t : List Raw) → get_or (joined r t) (place_of r.tag r.id (joined r t)) no_raw ≡ r
  unfolding joined place_of
  join_at [] = ap (λ (b : Bool). get_or (r ∷ []) (pick b 0 1) no_raw) (own_key r)
  join_at (e ∷ es) = go (join_at es) (same_key e r) refl
    where
      go : get_or (joined r es) (place_of r.tag r.id (joined r es)) no_raw ≡ r → (b : Bool) → same_key e r ≡ b
          → get_or (pick b (r ∷ es) (e ∷ joined r es)) (place_of r.tag r.id (pick b (r ∷ es) (e ∷ joined r es))) no_raw ≡ r
      go ih true k = ap (λ (b : Bool). get_or (r ∷ es) (pick b 0 (suc (place_of r.tag r.id es))) no_raw) (own_key r)
      go ih false k = ap (λ (b : Bool). get_or (e ∷ joined r es) (pick b 0 (suc (place_of r.tag r.id (joined r es)))) no_raw) k ∙ ih

  pub join_held : (t : List Raw) → held_of r.tag r.id (joined r t) ≡ Some r
  unfolding held_of
  join_held t =
      ap (λ (b : Bool). pick b (Some (get_or (joined r t) (place_of r.tag r.id (joined r t)) no_raw)) None) (join_own t)
      ∙ ap Some (join_at t)

-- ---- and what is held of another key stays
module _ (r : Raw) (tag id : ℕ) (apart : has_key tag id r ≡ false) where
  same-apart : (e : Raw) → same_key e r ≡ true → has_key tag id e ≡ false
  same-apart e k =
      ap₂ (λ (a b : ℕ). eqb a tag && eqb b id) (eqb-true e.tag r.tag (first (eqb e.tag r.tag) (eqb e.id r.id) k))
      (eqb-true e.id r.id (second (eqb e.tag r.tag) (eqb e.id r.id) k))
      ∙ apart

  holds-other : (t : List Raw) → holds tag id (joined r t) ≡ holds tag id t
  unfolding joined holds
  holds-other [] = ap (λ (b : Bool). b || false) apart
  holds-other (e ∷ es) = go (holds-other es) (same_key e r) refl
    where
      go : holds tag id (joined r es) ≡ holds tag id es → (b : Bool) → same_key e r ≡ b
          → holds tag id (pick b (r ∷ es) (e ∷ joined r es)) ≡ has_key tag id e || holds tag id es
      go ih true k = ap (λ (b : Bool). b || holds tag id es) (apart ∙ sym (same-apart e k))
      go ih false k = ap (λ (b : Bool). has_key tag id e || b) ih

  at_other : (t : List Raw) → get_or (joined r t) (place_of tag id (joined r t)) no_raw ≡ get_or t (place_of tag id t) no_raw
  unfolding joined place_of
  at_other [] = ap (λ (b : Bool). get_or (r ∷ []) (pick b 0 1) no_raw) apart
  at_other (e ∷ es) = go (at_other es) (same_key e r) refl
    where
      later : get_or (joined r es) (place_of tag id (joined r es)) no_raw ≡ get_or es (place_of tag id es) no_raw → (c : Bool)
          → get_or (e ∷ joined r es) (pick c 0 (suc (place_of tag id (joined r es)))) no_raw ≡ get_or (e ∷ es) (pick c 0 (suc (place_of tag id es))) no_raw
      later ih true = refl
      later ih false = ih

      go : get_or (joined r es) (place_of tag id (joined r es)) no_raw ≡ get_or es (place_of tag id es) no_raw → (b : Bool) → same_key e r ≡ b
          → get_or (pick b (r ∷ es) (e ∷ joined r es)) (place_of tag id (pick b (r ∷ es) (e ∷ joined r es))) no_raw
          ≡ get_or (e ∷ es) (pick (has_key tag id e) 0 (suc (place_of tag id es))) no_raw
      go ih true k =
          ap (λ (b : Bool). get_or (r ∷ es) (pick b 0 (suc (place_of tag id es))) no_raw) apart
          ∙ sym (ap (λ (b : Bool). get_or (e ∷ es) (pick b 0 (suc (place_of tag id es))) no_raw) (same-apart e k))
      go ih false k = later ih (has_key tag id e)

  pub join_other : (t : List Raw) → held_of tag id (joined r t) ≡ held_of tag id t
  unfolding held_of
  join_other t = ap₂ (λ (b : Bool) (x : Raw). pick b (Some x) None) (holds-other t) (at_other t)

-- ---- the records that a table shows
abbrev pub records_in : Table → List Raw
records_in blank = []
records_in broken = []
records_in (holding t) = t

pub shown_records : (image : List ℕ) (log : Log) → Inv image log → records_of log ≡ records_in (table_of log)
shown_records image log i = go log.state i.agrees.found
  where
    go : (z : State) → Found z (sectors_in (length image)) image log.next_seq (records_of log)
        → records_of log ≡ records_in (table_in (seen_by z (records_of log)))
    go Unformatted f = f.0
    go Failed f = f.0
    go (Active sector seq head) f = refl

-- ---- what a spend decides
module _ (credential current : ℕ) where
  abbrev tries_of : List Raw → ℕ
  tries_of t = remaining_of (start_of (held_of counter_tag credential t) current)

  module _ (t : List Raw) where
    abbrev s : CounterState
    s = start_of (held_of counter_tag credential t) current

    abbrev d : Decision
    d = spend_decision (held_of counter_tag credential t) (room_for counter_tag credential t) credential current

    -- the record that is written has one try fewer
    spent-tries : 0 < remaining_of s → tries_of (joined (counter_record credential (one_more s)) t) + 1 ≡ tries_of t
    unfolding start_of
    spent-tries h =
        let now : start_of (held_of counter_tag credential (joined (counter_record credential (one_more s)) t)) current ≡ one_more s =
        ap (λ (o : Option Raw). start_of o current) (join_held (counter_record credential (one_more s)) t) ∙ counter-read (one_more s) in
        ap (λ (x : CounterState). remaining_of x + 1) now ∙ omega (arith, failure_takes_one s h)

    -- a write is of that record, and with tries left; without one the tries are none, or it is a refusal
    pub spend-writes : writes_record d ≡ true → (0 < remaining_of s) × (record_in d ≡ counter_record credential (one_more s))
    unfolding spend_from failed_of
    spend-writes = go (eqb (remaining_of s) 0) refl
      where
        go : (b : Bool) → eqb (remaining_of s) 0 ≡ b
            → writes_record (pick b (give 0)
            (spent_by (room_for counter_tag credential t) credential (remaining_of s)
            (pick (eqb s.total total_max) (Err WriteError) (Ok (one_more s))))
            )
            ≡ true
            → (0 < remaining_of s)
            × (record_in (pick b (give 0)
            (spent_by (room_for counter_tag credential t) credential (remaining_of s)
            (pick (eqb s.total total_max) (Err WriteError) (Ok (one_more s))))
            )
            ≡ counter_record credential (one_more s))
        go true e h = absurd (false≢true h)
        go false e h = (left, by_total (eqb s.total total_max) h)
          where
            left : 0 < remaining_of s
            left = let some_left = eqb-false (remaining_of s) 0 e in omega arith

            by_total : (c : Bool)
                → writes_record (spent_by (room_for counter_tag credential t) credential (remaining_of s)
                (pick c (Err WriteError) (Ok (one_more s))))
                ≡ true
                → record_in (spent_by (room_for counter_tag credential t) credential (remaining_of s)
                (pick c (Err WriteError) (Ok (one_more s))))
                ≡ counter_record credential (one_more s)
            by_total true h = absurd (false≢true h)
            by_total false h =
                by_test (λ (x : Decision). writes_record x ≡ true → record_in x ≡ counter_record credential (one_more s))
                (room_for counter_tag credential t) _ _ (λ _ _. refl) (λ _ k. absurd (false≢true k)) h

    pub spend-refuses : 0 < remaining_of s → writes_record d ≡ false → is_done (answer_in d) ≡ false
    unfolding spend_from failed_of
    spend-refuses h = rw (ne_eqb (remaining_of s) 0 (λ e. omega arith)) (by_total (eqb s.total total_max))
      where
        by_total : (c : Bool)
            → writes_record (spent_by (room_for counter_tag credential t) credential (remaining_of s)
            (pick c (Err WriteError) (Ok (one_more s))))
            ≡ false
            → is_done
            (answer_in (spent_by (room_for counter_tag credential t) credential (remaining_of s)
            (pick c (Err WriteError) (Ok (one_more s)))))
            ≡ false
        by_total true h = refl
        by_total false h =
            by_test (λ (x : Decision). writes_record x ≡ false → is_done (answer_in x) ≡ false) (room_for counter_tag credential t) _ _
            (λ _ k. absurd (false≢true (sym k))) (λ _ _. refl) h

  -- the tries in the table that the decision leads to
  module _ (log : Log) where
    abbrev t₀ : List Raw
    t₀ = records_of log

    abbrev made : State → Decision
    made z = when_active z (d t₀)

    later-tries : (image : List ℕ) → Inv image log → (z : State)
        → (tries_of (records_in (decided_table (made z) log)) ≡ tries_of t₀)
        ⊎ (tries_of (records_in (decided_table (made z) log)) + 1 ≡ tries_of t₀)
    later-tries image i z = go (writes_record (made z)) refl
      where
        by-write : (y : State) → writes_record (made y) ≡ true → tries_of (joined (record_in (made y)) t₀) + 1 ≡ tries_of t₀
        by-write Unformatted e = absurd (false≢true e)
        by-write Failed e = absurd (false≢true e)
        by-write (Active sector seq head) e =
            let w = spend-writes t₀ e in
            ap (λ (r : Raw). tries_of (joined r t₀) + 1) w.1 ∙ spent-tries t₀ w.0

        go : (b : Bool) → writes_record (made z) ≡ b
            → (tries_of (records_in (pick b (holding (joined (record_in (made z)) t₀)) (table_of log))) ≡ tries_of t₀)
            ⊎ (tries_of (records_in (pick b (holding (joined (record_in (made z)) t₀)) (table_of log))) + 1 ≡ tries_of t₀)
        go true e = inr (by-write z e)
        go false e = inl (ap tries_of (sym (shown_records image log i)))

    -- where tries were left and the answer is 0, one is taken
    taken-tries : (z : State) → 0 < tries_of t₀ → (writes_record (made z) ≡ false → is_done (answer_in (made z)) ≡ true)
        → tries_of (records_in (decided_table (made z) log)) + 1 ≡ tries_of t₀
    taken-tries Unformatted h e = absurd (false≢true (e refl))
    taken-tries Failed h e = absurd (false≢true (e refl))
    taken-tries (Active sector seq head) h e = go (writes_record (d t₀)) refl
      where
        go : (b : Bool) → writes_record (d t₀) ≡ b → tries_of (records_in (pick b (holding (joined (record_in (d t₀)) t₀)) (table_of log))) + 1 ≡ tries_of t₀
        go true k = let w = spend-writes t₀ k in ap (λ (r : Raw). tries_of (joined r t₀) + 1) w.1 ∙ spent-tries t₀ h
        go false k = absurd (false≢true (sym (spend-refuses t₀ h k) ∙ e k))

-- ---- an answer 0 without a write was the decision's
module _ (image : List ℕ) (log : Log) (plan : Plan) (known : Bool) (tag id : ℕ) (comes_to : Option Raw → Bool → Decision) where
  abbrev settled : Decision
  settled = when_active log.state (comes_to (held_of tag id (records_of log)) (room_for tag id (records_of log)))

  pub keyed-answered : is_done (entered image log plan known (decided tag id comes_to)).answer ≡ true → writes_record settled ≡ false
      → is_done (answer_in settled) ≡ true
  unfolding entered performed
  keyed-answered e k = go (is_done (entry_answer (sectors_in (length image)) log known)) e refl
    where
      answered : (d : Decision) → is_done (performed d (sectors_in (length image)) log (flash_of image plan)).answer ≡ true
          → writes_record d ≡ false → is_done (answer_in d) ≡ true
      answered (Refuse x) e k = e
      answered (Give value) e k = e
      answered (Write r value) e k = absurd (false≢true (sym k))

      go : (b : Bool)
          → is_done
          (pick b (performed settled (sectors_in (length image)) log (flash_of image plan))
          (refused (entry_answer (sectors_in (length image)) log known) log (flash_of image plan))).answer
          ≡ true
          → is_done (entry_answer (sectors_in (length image)) log known) ≡ b → is_done (answer_in settled) ≡ true
      go true e z = answered settled e k
      go false e z = absurd (false≢true (sym z ∙ e))

-- ---- the call
module _ (w : World) (i : Inv w.image w.log) (credential current : ℕ) (fits : credential < 256) (small : current < 256) (plan : Plan) where
  abbrev log : Log
  log = w.log

  abbrev o : Outcome
  o = spend_of w.image log plan credential current

  abbrev decided-on : Decision
  decided-on = made credential current log log.state

  abbrev r : Raw
  r = counter_record credential (one_more (start_of (held_of counter_tag credential (records_of log)) current))

  safe : SafeCall (sectors_in (length w.image)) (Unmatched log.state r) (λ z. z ≡ seen log) (decided_table decided-on log) o
  unfolding spend_of
  safe =
      keyed-decided w.image log i (is_credential credential) counter_tag credential
      (λ (held : Option Raw) (room : Bool). spend_decision held room credential current)
      (λ t. counter_record credential (one_more (start_of (held_of counter_tag credential t) current))) (spend-sound credential current fits small) plan

  module _ (x : Log) (j : Inv o.flash.image x) where
    abbrev again : Log
    again = (open_of o.flash.image).log

    -- reopening finds the tries of a log that agrees with the image
    found-tries : (later : Table) → table_of x ≡ later → tries_in credential current again ≡ tries_of credential current (records_in later)
    found-tries later e =
        ap (tries_of credential current)
        (shown_records o.flash.image again (open_inv o.flash.image j.agrees.bytes)
        ∙ ap records_in (ap table_in (inv_open o.flash.image x j).0 ∙ e))

    before-tries : seen x ≡ seen log → tries_in credential current again ≡ tries_in credential current log
    before-tries e = found-tries (table_of log) (ap table_in e) ∙ ap (tries_of credential current) (sym (shown_records w.image log i))

    later-either : table_of x ≡ decided_table decided-on log
        → (tries_in credential current again ≡ tries_in credential current log)
        ⊎ (tries_in credential current again + 1 ≡ tries_in credential current log)
    later-either e = go (later-tries credential current log w.image i log.state)
      where
        go : (tries_of credential current (records_in (decided_table decided-on log)) ≡ tries_of credential current (records_of log))
            ⊎ (tries_of credential current (records_in (decided_table decided-on log)) + 1 ≡ tries_of credential current (records_of log))
            → (tries_in credential current again ≡ tries_in credential current log)
            ⊎ (tries_in credential current again + 1 ≡ tries_in credential current log)
        go (inl k) = inl (found-tries (decided_table decided-on log) e ∙ k)
        go (inr k) = inr (ap (λ (m : ℕ). m + 1) (found-tries (decided_table decided-on log) e) ∙ k)

  pub spend_keeps : KeepsTries w credential current plan
  unfolding spend_of
  spend_keeps = go safe
    where
      go : SafeCall (sectors_in (length w.image)) (Unmatched log.state r) (λ z. z ≡ seen log) (decided_table decided-on log) o
          → KeepsTries w credential current plan
      go (lasted on z j (inl d)) = record {
        either = λ _. later-either o.log j d.1;
        taken =
            λ e h.
            ap (λ (m : ℕ). m + 1) (found-tries o.log j (decided_table decided-on log) d.1)
            ∙ taken-tries credential current log log.state h
            (keyed-answered w.image log plan (is_credential credential) counter_tag credential
            (λ (held : Option Raw) (room : Bool). spend_decision held room credential current) e);
      }
      go (lasted on z j (inr d)) = record {
        either = λ _. inl (before-tries o.log j d.1);
        taken = λ e h. absurd (false≢true (sym d.0 ∙ e));
      }
      go (stopped c k u) = record {
        either = λ lucky. wakes (u (lucky c.marked));
        taken = λ e h. absurd (false≢true (sym k ∙ e));
      }
        where
          wakes : WakesUp (λ z. z ≡ seen log) (decided_table decided-on log) o.flash.image
              → (tries_in credential current (open_of o.flash.image).log ≡ tries_in credential current log)
              ⊎ (tries_in credential current (open_of o.flash.image).log + 1 ≡ tries_in credential current log)
          wakes v = shown v.shows
            where
              shown : (seen v.log ≡ seen log) ⊎ (table_of v.log ≡ decided_table decided-on log)
                  → (tries_in credential current (open_of o.flash.image).log ≡ tries_in credential current log)
                  ⊎ (tries_in credential current (open_of o.flash.image).log + 1 ≡ tries_in credential current log)
              shown (inl a) = inl (before-tries v.log v.inv a)
              shown (inr a) = later-either v.log v.inv a

-- in any session, and whatever the plan of the spend
pub pulled-spend : PulledSpend
pulled-spend image ms p = spend_keeps (now image ms) (session_agrees image ms p)
