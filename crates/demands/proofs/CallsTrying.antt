-- What spend, set and advance_lamport decide to write may be written: the counter or value held is of bytes, and so is the next one.
use Rattle.std.specs.Prelude.{Option, Some, None, Result, Ok, Err, is_some, unwrap_or}
use Rattle.basics.specs.declared.Refusal.{Refusal}
use mathlib.Core.Path.{◌≡◌, refl, ap, subst, ◌∙◌}
use mathlib.Core.Bool.{Bool, true, false, ◌&&◌, and-false, false≢true}
use mathlib.Core.List.{List, [], ◌∷◌}
use Prim.Native.Nat.{ℕ, zero, suc, ◌+◌, ◌≤◌, ◌<◌, ◌^◌}
use native.Mathlib.Omega.{arith}
use lib.Dec.{T, eqb}
use lib.ListN.{length, get_or, drop, length-drop}
use lib.Pow.{are_bytes}
use lib.Seq.{length-take-le}
use borrow.Author.Tests.{eqb-false, le-ltb, ltb-true}
use Rattle.basics.specs.Lists.{part}
use Rattle.basics.specs.Little.{le_number}
use Rattle.basics.specs.Choice.{pick}
use Rattle.basics.proofs.ChoiceLaws.{by_test}
use Rattle.basics.proofs.ListsLaws.{bytes-head, bytes_take, bytes_drop}
use Rattle.basics.proofs.LittleLaws.{le_fits}
use Rattle.ids.specs.declared.CounterState.{CounterState}
use Rattle.ids.specs.Ids.{counter_tag, value_tag, lamport, is_monotonic}
use Rattle.ids.specs.Counters.{remaining_of, total_max, one_more, failed_of, reset_of}
use Rattle.codec.specs.declared.Raw.{Raw}
use Rattle.codec.specs.Slots.{no_raw}
use Rattle.bodies.specs.Bodies.{counter_record, counter_in, value_record, value_in}
use Rattle.records.specs.Table.{place_of, holds, held_of}
use Rattle.records.proofs.TableFinding.{place-holds}
use Rattle.records.proofs.TableJoining.{nowhere}
use Rattle.records.proofs.LogsOwned.{Whole, AllWhole}
use Rattle.decisions.specs.declared.Decision.{Decision}
use Rattle.decisions.specs.Decisions.{writes_record}
use Rattle.reads.specs.Entering.{room_for}
use Rattle.tries.specs.Tries.{start_of, spent_by, spend_from, spend_decision, set_decision, lamport_max, seen_of, advance_from, advance_decision}
use Rattle.basics.specs.declared.Refusal.TheVariants.{WriteError}
use Rattle.demands.specs.Typed.{TypedCounter}
use Rattle.demands.proofs.SafePerforming.{WritesRecord}
use Rattle.demands.proofs.CallsDeciding.{counter-whole, value-whole, Decided, refuses, gives, decided-write, decided-holds, steady}
use Rattle.demands.proofs.CallsDeciding.{value_held, decided_writable, Sound, value-rises}

-- ---- the record held is of bytes
whole-at : (t : List Raw) (i : ℕ) → AllWhole t → i < length t → Whole (get_or t i no_raw)
unfolding AllWhole
whole-at [] i w h = absurd (omega arith)
whole-at (r ∷ t) zero w h = w.0
whole-at (r ∷ t) (suc i) w h = whole-at t i w.1 (omega arith)

pub held_whole : (tag id : ℕ) (t : List Raw) → AllWhole t → (r : Raw) → held_of tag id t ≡ Some r → Whole r
unfolding held_of
held_whole tag id t w r = go (holds tag id t) refl
  where
    go : (b : Bool) → holds tag id t ≡ b → pick b (Some (get_or t (place_of tag id t) no_raw)) None ≡ Some r → Whole r
    go true e k =
        let there = ltb-true (place_of tag id t) (length t) (place-holds tag id t ∙ e) in
        subst Whole (ap (λ (o : Option Raw). unwrap_or o no_raw) k) (whole-at t (place_of tag id t) w there)
    go false e k = absurd (false≢true (ap (λ (o : Option Raw). is_some o) k))

module _ (r : Raw) (w : Whole r) where
  part-fits : (i n : ℕ) → i + n ≤ 10 → le_number (part i n r.body) < 256 ^ n
  part-fits i n h =
      let long : length (part i n r.body) ≡ n = length-take-le n (drop i r.body) (simp length-drop (omega (arith, w.ten))) in
      subst (λ (m : ℕ). le_number (part i n r.body) < 256 ^ m) long
      (le_fits (part i n r.body) (bytes_take n (drop i r.body) (bytes_drop i r.body w.bytes)))

  first_byte : (bs : List ℕ) → T (are_bytes bs) → get_or bs 0 0 < 256
  first_byte [] t = omega arith
  first_byte (b ∷ bs) t = bytes-head b bs t

  counter-typed : TypedCounter (counter_in r.body)
  counter-typed = record { total = part-fits 2 4 (omega arith); at-reset = part-fits 6 4 (omega arith); allowance = first_byte r.body w.bytes }

  value-fits : value_in r.body < 2 ^ 64
  value-fits = part-fits 2 8 (omega arith)

-- ---- spend and set: a total below the highest has one more
pub spend-decided : (room : Bool) (credential : ℕ) (s : CounterState)
    → Decided room (counter_record credential (one_more s)) (s.total ≡ total_max → ⊥) (spend_from s room credential)
unfolding spend_from failed_of
spend-decided room credential s =
    by_test P (eqb (remaining_of s) 0) _ _ (λ _. gives 0)
    (λ _.
    by_test (λ (x : Result CounterState Refusal). P (spent_by room credential (remaining_of s) x)) (eqb s.total total_max) (Err WriteError)
    (Ok (one_more s)) (λ _. refuses WriteError)
    (λ e. decided-write room (counter_record credential (one_more s)) (s.total ≡ total_max → ⊥) (remaining_of s) (eqb-false s.total total_max e)))
  where
    P : Decision → Type 0
    P = Decided room (counter_record credential (one_more s)) (s.total ≡ total_max → ⊥)

pub set_decided : (held : Option Raw) (room : Bool) (credential tries : ℕ)
    → Decided room (counter_record credential (reset_of (start_of held tries) tries)) (Unit {0}) (set_decision held room credential tries)
unfolding set_decision
set_decided held room credential tries =
    let r = counter_record credential (reset_of (start_of held tries) tries) in
    by_test (Decided room r (Unit {0})) (is_some held && eqb (remaining_of (start_of held tries)) tries) _ _ (λ _. gives 0)
    (λ _. decided-write room r (Unit {0}) 0 tt)

module _ (t : List Raw) (w : AllWhole t) (credential : ℕ) (fits : credential < 256) where
  abbrev held : Option Raw
  held = held_of counter_tag credential t

  abbrev room : Bool
  room = room_for counter_tag credential t

  start-typed : (fresh : ℕ) → fresh < 256 → TypedCounter (start_of held fresh)
  unfolding start_of
  start-typed fresh h = go held (held_whole counter_tag credential t w)
    where
      go : (o : Option Raw) → ((r : Raw) → o ≡ Some r → Whole r) → TypedCounter (start_of o fresh)
      go None k = record { total = omega arith; at-reset = omega arith; allowance = h }
      go (Some r) k = counter-typed r (k r refl)

  abbrev CounterWrites : CounterState → Decision → Type 0
  CounterWrites s d = writes_record d ≡ true → WritesRecord d (counter_record credential s) t

  -- what is written of a counter
  counter-writes : (s : CounterState) (Q : Type 0) (d : Decision) → (Q → TypedCounter s) → Decided room (counter_record credential s) Q d
      → CounterWrites s d
  unfolding is_monotonic
  counter-writes s Q d typed made e =
      decided_writable (counter_record credential s)
      (counter-whole credential s fits (typed (decided-holds room (counter_record credential s) Q d made e))) (λ z. omega arith) t Q d
      (λ _. steady (counter_record credential s) (get_or t (place_of counter_tag credential t) nowhere) refl) made e

  pub spend-writes : (current : ℕ) → current < 256 → CounterWrites (one_more (start_of held current)) (spend_decision held room credential current)
  spend-writes current h =
      let s = start_of held current in
      let typed = start-typed current h in
      counter-writes (one_more s) (s.total ≡ total_max → ⊥) (spend_decision held room credential current)
      (λ most. record { total = omega (arith, typed.total); at-reset = typed.at-reset; allowance = typed.allowance })
      (spend-decided room credential s)

  pub set-writes : (tries : ℕ) → tries < 256 → CounterWrites (reset_of (start_of held tries) tries) (set_decision held room credential tries)
  set-writes tries h =
      let typed = start-typed tries h in
      counter-writes (reset_of (start_of held tries) tries) (Unit {0}) (set_decision held room credential tries)
      (λ _. record { total = typed.total; at-reset = typed.total; allowance = h }) (set_decided held room credential tries)

pub spend-sound : (credential current : ℕ) → credential < 256 → current < 256
    → Sound counter_tag credential (λ (held : Option Raw) (room : Bool). spend_decision held room credential current)
    (λ t. counter_record credential (one_more (start_of (held_of counter_tag credential t) current)))
spend-sound credential current fits h t w = spend-writes t w credential fits current h

pub set-sound : (credential tries : ℕ) → credential < 256 → tries < 256
    → Sound counter_tag credential (λ (held : Option Raw) (room : Bool). set_decision held room credential tries)
    (λ t. counter_record credential (reset_of (start_of (held_of counter_tag credential t) tries) tries))
set-sound credential tries fits h t w = set-writes t w credential fits tries h

-- ---- advance_lamport: above the value held
most-fits : (held : Option Raw) (seen : ℕ) → value_held held < 2 ^ 64 → seen < 2 ^ 64 → seen_of held seen < 2 ^ 64
most-fits None seen h k = k
most-fits (Some r) seen h k = omega arith

most-above : (held : Option Raw) (seen : ℕ) → value_held held ≤ seen_of held seen + 1
most-above None seen = omega arith
most-above (Some r) seen = omega arith

held-fits : (held : Option Raw) → ((r : Raw) → held ≡ Some r → Whole r) → value_held held < 2 ^ 64
held-fits None k = omega arith
held-fits (Some r) k = value-fits r (k r refl)

module _ (held : Option Raw) (room : Bool) (seen : ℕ) where
  abbrev most : ℕ
  most = seen_of held seen

  pub advance_decided : Decided room (value_record lamport (most + 1)) (most ≡ lamport_max → ⊥) (advance_from most room)
  unfolding advance_from
  advance_decided =
      by_test (Decided room (value_record lamport (most + 1)) (most ≡ lamport_max → ⊥)) (eqb most lamport_max) _ _ (λ _. refuses WriteError)
      (λ e. decided-write room (value_record lamport (most + 1)) (most ≡ lamport_max → ⊥) (most + 1) (eqb-false most lamport_max e))

pub advance_sound : (seen : ℕ) → seen < 2 ^ 64
    → Sound value_tag lamport (λ (held : Option Raw) (room : Bool). advance_decision held room seen)
    (λ t. value_record lamport (seen_of (held_of value_tag lamport t) seen + 1))
advance_sound seen h t w e =
    let held = held_of value_tag lamport t in
    let room = room_for value_tag lamport t in
    let made = advance_decided held room seen in
    let new = seen_of held seen + 1 in
    let unlike =
    decided-holds room (value_record lamport (seen_of held seen + 1)) (seen_of held seen ≡ lamport_max → ⊥) (advance_decision held room seen)
    made e in
    let fits = most-fits held seen (held-fits held (held_whole value_tag lamport t w)) h in
    let above = most-above held seen in
    decided_writable (value_record lamport new) (value-whole lamport new (omega arith) (omega arith)) (λ z. omega arith) t
    (seen_of held seen ≡ lamport_max → ⊥) (advance_decision held room seen)
    (λ _.
    value-rises lamport new t
    (ap (λ (b : Bool). is_monotonic value_tag lamport && b) (le-ltb new (value_held held) above)
    ∙ and-false (is_monotonic value_tag lamport)))
    made e
