-- What a call decides to write may be written: bytes with a tag, with room for its key, and no monotonic value below the one held.
use Rattle.std.specs.Prelude.{Option, Some, None, Result, Ok, Err, is_ok}
use Rattle.std.specs.Result.{result_unwrap_or}
use Rattle.basics.specs.declared.Refusal.{Refusal}
use mathlib.Core.Path.{◌≡◌, refl, sym, ap, ap₂, subst, ◌∙◌}
use mathlib.Core.Bool.{Bool, true, false, ◌&&◌, and-false, or-true, false≢true}
use mathlib.Core.List.{List, [], ◌∷◌, ◌++◌}
use Prim.Native.Nat.{ℕ, zero, suc, ◌+◌, ◌≤◌, ◌<◌, ◌^◌}
use native.Mathlib.Omega.{arith}
use lib.Dec.{eqb, ltb}
use lib.ListN.{length, get_or, take, get_or-eq_default}
use borrow.Author.Tests.{lt-ltb, le-ltb, ltb-true, ltb-false}
use Rattle.basics.specs.Choice.{pick}
use Rattle.basics.specs.Little.{le_bytes, le_number}
use Rattle.basics.specs.declared.Refusal.TheVariants.{KeystoreFull, IntegrityFailure}
use Rattle.basics.proofs.ChoiceLaws.{by_test}
use Rattle.basics.proofs.ListsLaws.{bytes_cons, bytes-append, bytes_take}
use Rattle.basics.proofs.LittleLaws.{le-bytes}
use Rattle.ids.specs.declared.CounterState.{CounterState}
use Rattle.ids.specs.declared.Anchor.{Anchor}
use Rattle.ids.specs.Ids.{counter_tag, value_tag, anchor_tag, anchor_seq_max, is_monotonic}
use Rattle.codec.specs.declared.Raw.{Raw}
use Rattle.codec.specs.Slots.{no_raw}
use Rattle.bodies.specs.Bodies.{counter_body, counter_record, counter_in, value_body, value_record, value_in, anchor_body, anchor_record, anchor_in}
use Rattle.bodies.proofs.BodiesRoundTrip.{value_read}
use Rattle.decisions.specs.declared.seeds.Seed.{Seed}
use Rattle.decisions.specs.Seeds.{seeded}
use Rattle.decisions.proofs.SeedsLaws.{seeded-most}
use Rattle.records.specs.Table.{joined, has_room, limit, place_of, holds, falls, held_of}
use Rattle.records.proofs.TableJoining.{nowhere}
use Rattle.records.proofs.LogsOwned.{Whole, AllWhole}
use Rattle.decisions.specs.declared.Decision.{Decision}
use Rattle.decisions.specs.declared.Decision.TheVariants.{Write}
use Rattle.decisions.specs.Decisions.{refuse, give, write, same_counter, put_decision, value_decision, same_anchor, write_made, anchor_write, anchor_decision}
use Rattle.decisions.specs.Decisions.{writes_record, record_in}
use Rattle.reads.specs.Entering.{room_for}
use Rattle.records.proofs.TableFinding.{place-holds}
use Rattle.demands.specs.Calls.{anchor_raw}
use Rattle.demands.specs.Typed.{TypedCounter, TypedAnchor, TypedSeeds}
use Rattle.demands.proofs.Tables.{Proper, join_proper}
use Rattle.demands.proofs.SafePerforming.{WritesRecord}

-- ---- records of bytes
counter-ten : (s : CounterState) → length (counter_body s) ≡ 10
unfolding le_bytes
counter-ten s = refl

pub counter-whole : (credential : ℕ) (s : CounterState) → credential < 256 → TypedCounter s → Whole (counter_record credential s)
counter-whole credential s h t = record {
  tag_fits = omega arith;
  id_fits = h;
  ten = counter-ten s;
  bytes =
      bytes_cons s.allowance (0 ∷ (le_bytes 4 s.total ++ le_bytes 4 s.at_reset)) t.allowance
      (bytes-append (le_bytes 4 s.total) (le_bytes 4 s.at_reset) (le-bytes 4 s.total t.total) (le-bytes 4 s.at_reset t.at-reset));
}

value-ten : (x : ℕ) → length (value_body x) ≡ 10
unfolding le_bytes
value-ten x = refl

pub value-whole : (id x : ℕ) → id < 256 → x < 2 ^ 64 → Whole (value_record id x)
value-whole id x h k = record { tag_fits = omega arith; id_fits = h; ten = value-ten x; bytes = le-bytes 8 x k }

anchor-ten : (a : Anchor) → length (anchor_body a) ≡ 10
unfolding le_bytes
anchor-ten a = refl

-- the record of an anchor whose head_seq has 48 bits
abbrev anchored : Anchor → Raw
anchored a = record { tag = anchor_tag; id = 0; body = anchor_body a }

pub anchor-whole : (a : Anchor) → TypedAnchor a → Whole (anchored a)
anchor-whole a t = record {
  tag_fits = omega arith;
  id_fits = omega arith;
  ten = anchor-ten a;
  bytes =
      bytes-append (le_bytes 2 a.format_gen) (take 6 (le_bytes 8 a.head_seq) ++ le_bytes 2 a.head_slot)
      (le-bytes 2 a.format_gen t.format-gen)
      (bytes-append (take 6 (le_bytes 8 a.head_seq)) (le_bytes 2 a.head_slot)
      (bytes_take 6 (le_bytes 8 a.head_seq) (le-bytes 8 a.head_seq t.head-seq))
      (le-bytes 2 a.head_slot t.head-slot));
}

pub anchor-record : (a : Anchor) → is_ok (anchor_record a) ≡ true → anchor_raw a ≡ anchored a
unfolding anchor_record
anchor-record a =
    by_test (λ (m : Result Raw Refusal). is_ok m ≡ true → result_unwrap_or m no_raw ≡ anchored a) (ltb anchor_seq_max a.head_seq) _ _
    (λ _ e. absurd (false≢true e)) (λ _ e. refl)

-- an element that is there doesn't depend on the default
same-there : (t : List Raw) (i : ℕ) → i < length t → get_or t i nowhere ≡ get_or t i no_raw
same-there [] i h = absurd (omega arith)
same-there (r ∷ t) zero h = refl
same-there (r ∷ t) (suc i) h = same-there t i (omega arith)

-- ---- what is decided
-- a refusal, an answer without a write, or to write r where there is room for it, and then Q holds
pub data Decided (room : Bool) (r : Raw) (Q : Type 0) : Decision → Type 0 where
  refuses : (x : Refusal) → Decided room r Q (refuse x)
  gives : (value : ℕ) → Decided room r Q (give value)
  writes : (value : ℕ) → room ≡ true → Q → Decided room r Q (Write r value)

pub decided-write : (room : Bool) (r : Raw) (Q : Type 0) (value : ℕ) → Q → Decided room r Q (write room r value)
decided-write room r Q value q = by_test (Decided room r Q) room _ _ (λ e. writes value e q) (λ e. refuses KeystoreFull)

-- where it writes, Q holds
pub decided-holds : (room : Bool) (r : Raw) (Q : Type 0) (d : Decision) → Decided room r Q d → writes_record d ≡ true → Q
decided-holds room r Q d (refuses x) e = absurd (false≢true e)
decided-holds room r Q d (gives value) e = absurd (false≢true e)
decided-holds room r Q d (writes value h q) e = q

pub put-decided : (held : Option Raw) (room : Bool) (credential : ℕ) (new : CounterState)
    → Decided room (counter_record credential new) (Unit {0}) (put_decision held room credential new)
unfolding put_decision
put-decided None room credential new = decided-write room (counter_record credential new) (Unit {0}) 0 tt
put-decided (Some r) room credential new =
    by_test P (ltb new.total (counter_in r.body).total) _ _ (λ _. refuses IntegrityFailure)
    (λ _. by_test P (same_counter new (counter_in r.body)) _ _ (λ _. gives 0)
    (λ _. decided-write room (counter_record credential new) (Unit {0}) 0 tt))
  where
    P : Decision → Type 0
    P = Decided room (counter_record credential new) (Unit {0})

-- the value of the record held; 0 where none is
abbrev pub value_held : Option Raw → ℕ
value_held None = 0
value_held (Some r) = value_in r.body

-- not below the value held
abbrev pub Rises : Option Raw → ℕ → ℕ → Type 0
Rises held id new = (is_monotonic value_tag id && ltb new (value_held held)) ≡ false

pub value-decided : (held : Option Raw) (room : Bool) (id new : ℕ) → Decided room (value_record id new) (Rises held id new) (value_decision held room id new)
unfolding value_decision
value-decided None room id new =
    decided-write room (value_record id new) (Rises None id new) 0 (ap (λ (b : Bool). is_monotonic value_tag id && b) (le-ltb new 0 (omega arith)) ∙ and-false _)
value-decided (Some r) room id new =
    by_test P (is_monotonic value_tag id && ltb new (value_in r.body)) _ _ (λ _. refuses IntegrityFailure)
    (λ e. by_test P (eqb new (value_in r.body)) _ _ (λ _. gives 0) (λ _. decided-write room (value_record id new) (Rises (Some r) id new) 0 e))
  where
    P : Decision → Type 0
    P = Decided room (value_record id new) (Rises (Some r) id new)

-- an anchor that has a record is written
module _ (room : Bool) (new : Anchor) where
  abbrev AnchorDecided : Decision → Type 0
  AnchorDecided = Decided room (anchored new) (anchor_raw new ≡ anchored new)

  anchor-wrote : AnchorDecided (anchor_write room new)
  unfolding anchor_write
  anchor-wrote = go (anchor_record new) refl
    where
      go : (m : Result Raw Refusal) → anchor_record new ≡ m → AnchorDecided (write_made room m)
      go (Ok r) e =
          let is = anchor-record new (ap (λ (x : Result Raw Refusal). is_ok x) e) in
          let same : r ≡ anchored new = sym (ap (λ (x : Result Raw Refusal). result_unwrap_or x no_raw) e) ∙ is in
          subst (λ (x : Raw). AnchorDecided (write room x 0)) (sym same) (decided-write room (anchored new) (anchor_raw new ≡ anchored new) 0 is)
      go (Err x) e = refuses x

pub anchor-decided : (held : Option Raw) (room : Bool) (new : Anchor)
    → Decided room (anchored new) (anchor_raw new ≡ anchored new) (anchor_decision held room new)
unfolding anchor_decision
anchor-decided None room new = anchor-wrote room new
anchor-decided (Some r) room new =
    by_test P (same_anchor new (anchor_in r.body)) _ _ (λ _. gives 0)
    (λ _.
    by_test P (eqb new.format_gen (anchor_in r.body).format_gen && ltb new.head_seq (anchor_in r.body).head_seq)
    _ _ (λ _. refuses IntegrityFailure) (λ _. anchor-wrote room new))
  where
    P : Decision → Type 0
    P = Decided room (anchored new) (anchor_raw new ≡ anchored new)

-- ---- and so may be written
-- the value at a key's place is the value of the record held
held-value : (tag id : ℕ) (t : List Raw) → value_in (get_or t (place_of tag id t) nowhere).body ≡ value_held (held_of tag id t)
unfolding held_of le_number
held-value tag id t = go (holds tag id t) refl
  where
    go : (b : Bool) → holds tag id t ≡ b
        → value_in (get_or t (place_of tag id t) nowhere).body ≡ value_held (pick b (Some (get_or t (place_of tag id t) no_raw)) None)
    go true e =
        let there = ltb-true (place_of tag id t) (length t) (place-holds tag id t ∙ e) in
        ap (λ (r : Raw). value_in r.body) (same-there t (place_of tag id t) there)
    go false e =
        let past = ltb-false (place_of tag id t) (length t) (place-holds tag id t ∙ e) in
        ap (λ (r : Raw). value_in r.body) (get_or-eq_default t nowhere past)

-- counters and anchors don't fall
pub steady : (r x : Raw) → is_monotonic r.tag r.id ≡ false → falls r x ≡ false
unfolding falls
steady r x e = rw e

module _ (r : Raw) (w : Whole r) (tagged : r.tag ≡ 0xFF → ⊥) (t : List Raw) where
  pub decided_writable : (Q : Type 0) (d : Decision) → (Q → falls r (get_or t (place_of r.tag r.id t) nowhere) ≡ false)
      → Decided (room_for r.tag r.id t) r Q d → writes_record d ≡ true → WritesRecord d r t
  unfolding room_for
  decided_writable Q d rises (refuses x) e = absurd (false≢true e)
  decided_writable Q d rises (gives value) e = absurd (false≢true e)
  decided_writable Q d rises (writes value room q) e =
      record { rec-is = refl; may = record { whole = w; tagged = tagged; room = room; rises = rises q } }

-- what is decided on the record of a key writes this record, whatever the log holds
abbrev pub Sound : ℕ → ℕ → (Option Raw → Bool → Decision) → (List Raw → Raw) → Type 0
Sound tag id decision r =
    (t : List Raw) → AllWhole t → writes_record (decision (held_of tag id t) (room_for tag id t)) ≡ true
    → WritesRecord (decision (held_of tag id t) (room_for tag id t)) (r t) t

pub put-sound : (credential : ℕ) (new : CounterState) → credential < 256 → TypedCounter new
    → Sound counter_tag credential (λ (held : Option Raw) (room : Bool). put_decision held room credential new)
    (λ t. counter_record credential new)
unfolding is_monotonic
put-sound credential new h typed t _ =
    decided_writable (counter_record credential new) (counter-whole credential new h typed) (λ e. omega arith) t (Unit {0})
    (put_decision (held_of counter_tag credential t) (room_for counter_tag credential t) credential new)
    (λ _. steady (counter_record credential new) (get_or t (place_of counter_tag credential t) nowhere) refl)
    (put-decided (held_of counter_tag credential t) (room_for counter_tag credential t) credential new)

-- a value that rises over the record held
pub value-rises : (id new : ℕ) (t : List Raw) → Rises (held_of value_tag id t) id new
    → falls (value_record id new) (get_or t (place_of value_tag id t) nowhere) ≡ false
unfolding falls
value-rises id new t e = ap₂ (λ (x y : ℕ). is_monotonic value_tag id && ltb x y) (value_read new) (held-value value_tag id t) ∙ e

pub value-sound : (id new : ℕ) → id < 256 → new < 2 ^ 64
    → Sound value_tag id (λ (held : Option Raw) (room : Bool). value_decision held room id new) (λ t. value_record id new)
value-sound id new h k t _ =
    decided_writable (value_record id new) (value-whole id new h k) (λ e. omega arith) t
    (Rises (held_of value_tag id t) id new) (value_decision (held_of value_tag id t) (room_for value_tag id t) id new)
    (value-rises id new t) (value-decided (held_of value_tag id t) (room_for value_tag id t) id new)

pub anchor-writes : (new : Anchor) → TypedAnchor new → (t : List Raw)
    → writes_record (anchor_decision (held_of anchor_tag 0 t) (room_for anchor_tag 0 t) new) ≡ true
    → WritesRecord (anchor_decision (held_of anchor_tag 0 t) (room_for anchor_tag 0 t) new) (anchor_raw new) t
unfolding is_monotonic
anchor-writes new typed t e =
    let d = anchor_decision (held_of anchor_tag 0 t) (room_for anchor_tag 0 t) new in
    let made = anchor-decided (held_of anchor_tag 0 t) (room_for anchor_tag 0 t) new in
    subst (λ (r : Raw). WritesRecord d r t)
    (sym (decided-holds (room_for anchor_tag 0 t) (anchored new) (anchor_raw new ≡ anchored new) d made e))
    (decided_writable (anchored new) (anchor-whole new typed) (λ z. omega arith) t (anchor_raw new ≡ anchored new) d
    (λ _. steady (anchored new) (get_or t (place_of anchor_tag 0 t) nowhere) refl) made e)

pub anchor-sound : (new : Anchor) → TypedAnchor new
    → Sound anchor_tag 0 (λ (held : Option Raw) (room : Bool). anchor_decision held room new) (λ t. anchor_raw new)
anchor-sound new typed t _ = anchor-writes new typed t

-- where nothing is held, an anchor whose head_seq has 48 bits is written
pub anchor-first-writes : (new : Anchor) → is_ok (anchor_record new) ≡ true
    → (writes_record (anchor_decision (held_of anchor_tag 0 []) (room_for anchor_tag 0 []) new) ≡ true)
    × (record_in (anchor_decision (held_of anchor_tag 0 []) (room_for anchor_tag 0 []) new) ≡ anchor_raw new)
unfolding anchor_decision anchor_write held_of room_for holds
anchor-first-writes new = go (anchor_record new)
  where
    go : (m : Result Raw Refusal) → is_ok m ≡ true → (writes_record (write_made true m) ≡ true) × (record_in (write_made true m) ≡ result_unwrap_or m no_raw)
    go (Ok r) e = (refl, refl)
    go (Err x) e = absurd (false≢true e)

-- ---- the seeds of a format
room-left : (r : Raw) (t : List Raw) → length t < limit → has_room limit r t ≡ true
room-left r t h = rw (lt-ltb (length t) limit h, or-true)

pub seeded-proper : (seeds : List Seed) (t : List Raw) → TypedSeeds seeds → length t + length seeds ≤ limit → Proper t → Proper (seeded seeds t)
unfolding seeded TypedSeeds
seeded-proper [] t typed few p = p
seeded-proper (s ∷ seeds) t typed few p =
    let r = counter_record s.credential s.state in
    seeded-proper seeds (joined r t) typed.2 (omega (arith, seeded-most (s ∷ []) t))
    (join_proper r t (counter-whole s.credential s.state typed.0 typed.1) (λ e. omega arith) (room-left r t (omega arith)) p)
