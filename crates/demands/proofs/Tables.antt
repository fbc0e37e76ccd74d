-- The tables that a log may hold, what joins them, and what a pass over slots reads.
use Rattle.std.specs.Prelude.{Option, Some, None}
use mathlib.Core.Path.{◌≡◌, refl, sym, ap, ap₂, subst, ◌∙◌}
use mathlib.Core.Bool.{Bool, true, false, ◌&&◌, ◌||◌, or_assoc, false≢true}
use mathlib.Core.List.{List, [], ◌∷◌, ◌++◌, append-nil}
use mathlib.Core.Logic.{◌⊎◌, inl, inr}
use Prim.Native.Nat.{ℕ, zero, suc, ◌+◌, ◌≤◌, ◌<◌}
use native.Mathlib.Omega.{arith}
use lib.Dec.{T, eqb, ltb}
use lib.ListN.{length, get_or, length-append, length-set}
use lib.Pow.{are_bytes}
use lib.Seq.{append_snoc, length-take-le}
use borrow.Author.Tests.{eq-eqb, eqb-true, lt-ltb, ltb-true, ltb-false}
use Rattle.basics.specs.Choice.{pick}
use Rattle.basics.proofs.ChoiceLaws.{alike}
use Rattle.basics.proofs.ListsLaws.{bytes-head, bytes_tail, bytes_take}
use Rattle.codec.specs.declared.Raw.{Raw}
use Rattle.codec.specs.Slots.{raw_of, slot_of, decoded}
use Rattle.codec.proofs.SlotsRoundTrip.{decode_encode, decode_sealed}
use Rattle.records.specs.Table.{limit, has_key, same_key, place_of, holds, joined, falls, absorbed, has_room}
use Rattle.records.proofs.TableFinding.{place-most, place-holds}
use Rattle.records.proofs.TableJoining.{nowhere, join_held, join_new, absorb_join, absorb_kept, absorb_new}
use Rattle.records.proofs.TableKeys.{Apart}
use Rattle.scan.specs.Reading.{Read, too_many, these, with_record, with_slot, read_from}
use Rattle.records.specs.Fitting.{keys_fit}
use Rattle.records.proofs.FittingLaws.{Tagged, keys_apart, keys_tagged, join_keys}
use Rattle.records.proofs.LogsOwned.{Whole, AllWhole}
use Rattle.demands.proofs.Torn.{decoded-or}

-- ---- a table that a log may hold
pub record Proper (t : List Raw) : Type 0 where
  pub few : length t ≤ limit
  pub keyed : keys_fit t ≡ true
  pub whole : AllWhole t

pub proper-none : Proper []
unfolding keys_fit AllWhole
proper-none = record { few = omega arith; keyed = refl; whole = tt }

-- a record that a call may write into it: of bytes, with a tag, with room for its key, and not below the one held
pub record Writable (r : Raw) (t : List Raw) : Type 0 where
  pub whole : Whole r
  pub tagged : r.tag ≡ 0xFF → ⊥
  pub room : has_room limit r t ≡ true
  pub rises : falls r (get_or t (place_of r.tag r.id t) nowhere) ≡ false

-- ---- joining
module _ (r : Raw) (t : List Raw) where
  abbrev at : ℕ
  at = place_of r.tag r.id t

  -- the key is held, or it has no place yet
  abbrev Held : Type 0
  Held = (at < length t) × (holds r.tag r.id t ≡ true)

  abbrev New : Type 0
  New = (at ≡ length t) × (holds r.tag r.id t ≡ false)

  held-or-new : Held ⊎ New
  held-or-new = go (ltb at (length t)) refl
    where
      go : (b : Bool) → ltb at (length t) ≡ b → Held ⊎ New
      go true e = inl (ltb-true at (length t) e, sym (place-holds r.tag r.id t) ∙ e)
      go false e =
          let past = ltb-false at (length t) e in
          inr (omega (arith, place-most r.tag r.id t), sym (place-holds r.tag r.id t) ∙ e)

  pub join_few : has_room limit r t ≡ true → length t ≤ limit → length (joined r t) ≤ limit
  join_few room few = go held-or-new
    where
      go : Held ⊎ New → length (joined r t) ≤ limit
      go (inl h) = let same_size = ap length (join_held r t h.0) ∙ length-set t at r in omega arith
      go (inr h) =
          let join_longer = ap length (join_new r t h.0) ∙ length-append t (r ∷ []) in
          let left = ltb-true (length t) limit (ap (λ (b : Bool). b || ltb (length t) limit) (sym h.1) ∙ room) in
          omega arith

  -- what is absorbed joins, or changes nothing
  absorb_or : (absorbed r t ≡ t) ⊎ (absorbed r t ≡ joined r t)
  absorb_or = go held-or-new (falls r (get_or t at nowhere)) refl
    where
      go : Held ⊎ New → (b : Bool) → falls r (get_or t at nowhere) ≡ b
          → (absorbed r t ≡ t) ⊎ (absorbed r t ≡ joined r t)
      go (inl h) true e = inl (absorb_kept r t h.0 e)
      go (inl h) false e = inr (absorb_join r t e)
      go (inr h) b e = inr (absorb_new r t h.0 ∙ sym (join_new r t h.0))

join_whole : (r : Raw) (t : List Raw) → Whole r → AllWhole t → AllWhole (joined r t)
unfolding AllWhole joined
join_whole r [] w a = (w, tt)
join_whole r (e ∷ es) w a = go (join_whole r es w a.1) (same_key e r)
  where
    go : AllWhole (joined r es) → (b : Bool) → AllWhole (pick b (r ∷ es) (e ∷ joined r es))
    go ih true = (w, a.1)
    go ih false = (a.0, ih)

module _ (r : Raw) (t : List Raw) (w : Whole r) (tagged : r.tag ≡ 0xFF → ⊥) (room : has_room limit r t ≡ true) (p : Proper t) where
  pub join_proper : Proper (joined r t)
  join_proper = record {
    few = join_few r t room p.few;
    keyed = join_keys r tagged t p.keyed;
    whole = join_whole r t w p.whole;
  }

  pub absorb_proper : Proper (absorbed r t)
  absorb_proper = go (absorb_or r t)
    where
      go : (absorbed r t ≡ t) ⊎ (absorbed r t ≡ joined r t) → Proper (absorbed r t)
      go (inl e) = subst Proper (sym e) p
      go (inr e) = subst Proper (sym e) join_proper

-- ---- reading
-- what is no record changes nothing
pub slot-none : (seq : ℕ) (slot : List ℕ) (read : Read) → decoded seq slot ≡ None → with_slot seq slot read ≡ read
slot-none seq slot too_many e = refl
slot-none seq slot (these t) e = ap (λ (o : Option Raw). with_record o t) e

-- a record that may be written is read as it joins
pub slot-written : (seq : ℕ) (r : Raw) (t : List Raw) → Writable r t → with_slot seq (slot_of seq r) (these t) ≡ these (joined r t)
slot-written seq r t w =
    ap (λ (o : Option Raw). with_record o t) (decode_encode seq r w.whole.ten w.tagged)
    ∙ ap (λ (b : Bool). pick b (these (absorbed r t)) too_many) w.room
    ∙ ap these (absorb_join r t w.rises)

module _ (seq : ℕ) (slots : ℕ → List ℕ) where
  -- one pass after the other
  pub read-on : (a b k : ℕ) (read : Read) → read_from (a + b) k seq slots read ≡ read_from b (k + a) seq slots (read_from a k seq slots read)
  unfolding read_from
  read-on zero b k read =
      let none_more : 0 + b ≡ b = omega arith in
      let here : k ≡ k + 0 = omega arith in
      ap₂ (λ (n m : ℕ). read_from n m seq slots read) none_more here
  read-on (suc a) b k read =
      let more : suc a + b ≡ suc (a + b) = omega arith in
      let there : suc k + a ≡ k + suc a = omega arith in
      ap (λ (n : ℕ). read_from n k seq slots read) more
      ∙ read-on a b (suc k) (with_slot seq (slots k) read)
      ∙ ap (λ (m : ℕ). read_from b m seq slots (read_from a (suc k) seq slots (with_slot seq (slots k) read))) there

  pub read-last : (n k : ℕ) (read : Read) → read_from (suc n) k seq slots read ≡ with_slot seq (slots (k + n)) (read_from n k seq slots read)
  unfolding read_from
  read-last n k read = let more : suc n ≡ n + 1 = omega arith in ap (λ (m : ℕ). read_from m k seq slots read) more ∙ read-on n 1 k read

  -- slots that hold no record change nothing
  pub read_quiet : (n k : ℕ) (read : Read) → ((i : ℕ) → k ≤ i → i < k + n → decoded seq (slots i) ≡ None) → read_from n k seq slots read ≡ read
  unfolding read_from
  read_quiet zero k read quiet = refl
  read_quiet (suc n) k read quiet =
      ap (read_from n (suc k) seq slots) (slot-none seq (slots k) read (quiet k (omega arith) (omega arith)))
      ∙ read_quiet n (suc k) read (λ i l u. quiet i (omega arith) (omega arith))

  -- the records of t stand in the slots from k on
  unfoldable pub Written : ℕ → List Raw → Type 0
  Written k [] = Unit {0}
  Written k (r ∷ t) = (slots k ≡ slot_of seq r) × Written (suc k) t

pub written_same : (seq : ℕ) (slots others : ℕ → List ℕ) (k : ℕ) (t : List Raw) → ((i : ℕ) → k ≤ i → i < k + length t → others i ≡ slots i)
    → Written seq slots k t → Written seq others k t
unfolding Written
written_same seq slots others k [] alike w = tt
written_same seq slots others k (r ∷ t) alike w =
    (alike k (omega arith) (omega arith) ∙ w.0, written_same seq slots others (suc k) t (λ i l u. alike i (omega arith) (omega arith)) w.1)

-- ---- a whole table, read as it was written
eqb_back : (x y : ℕ) → eqb x y ≡ eqb y x
eqb_back x y = alike (eqb x y) (eqb y x) (λ e. eq-eqb y x (sym (eqb-true x y e))) (λ e. eq-eqb x y (sym (eqb-true y x e)))

holds-append : (tag id : ℕ) (a b : List Raw) → holds tag id (a ++ b) ≡ (holds tag id a || holds tag id b)
unfolding holds
holds-append tag id [] b = refl
holds-append tag id (e ∷ a) b =
    ap (λ (x : Bool). has_key tag id e || x) (holds-append tag id a b) ∙ sym (or_assoc (has_key tag id e) (holds tag id a) (holds tag id b))

none_left : (a b : Bool) → (a || b) ≡ false → a ≡ false
none_left true b e = absurd (false≢true (sym e))
none_left false b e = refl

none_right : (a b : Bool) → (a || b) ≡ false → b ≡ false
none_right true b e = absurd (false≢true (sym e))
none_right false b e = e

-- of keys that stand apart, one in the middle is not among those before it
apart-before : (r : Raw) (a t : List Raw) → Apart (a ++ (r ∷ t)) → holds r.tag r.id a ≡ false
unfolding Apart holds
apart-before r [] t p = refl
apart-before r (e ∷ a) t p =
    let here =
    none_left (has_key e.tag e.id r) (holds e.tag e.id t)
    (none_right (holds e.tag e.id a) (holds e.tag e.id (r ∷ t)) (sym (holds-append e.tag e.id a (r ∷ t)) ∙ p.0)) in
    ap₂ (λ (x y : Bool). x || y) (ap₂ (λ (x y : Bool). x && y) (eqb_back e.tag r.tag) (eqb_back e.id r.id) ∙ here)
    (apart-before r a t p.1)

slot-new : (seq : ℕ) (r : Raw) (a : List Raw) → Whole r → (r.tag ≡ 0xFF → ⊥) → holds r.tag r.id a ≡ false → length a < limit
    → with_slot seq (slot_of seq r) (these a) ≡ these (a ++ (r ∷ []))
slot-new seq r a w tagged new room =
    let place = ltb-false (place_of r.tag r.id a) (length a) (place-holds r.tag r.id a ∙ new) in
    ap (λ (o : Option Raw). with_record o a) (decode_encode seq r w.ten tagged)
    ∙ ap (λ (b : Bool). pick b (these (absorbed r a)) too_many) (ap₂ (λ (x y : Bool). x || y) new (lt-ltb (length a) limit room))
    ∙ ap these (absorb_new r a (omega (arith, place-most r.tag r.id a)))

read-from : (seq : ℕ) (slots : ℕ → List ℕ) (k : ℕ) (a t : List Raw) → Apart (a ++ t) → Tagged t → AllWhole t → length a + length t ≤ limit
    → Written seq slots k t
    → read_from (length t) k seq slots (these a) ≡ these (a ++ t)
unfolding read_from Written Tagged AllWhole
read-from seq slots k a [] apart tags whole few w = ap these (sym (append-nil a))
read-from seq slots k a (r ∷ t) apart tags whole few w =
    ap (λ (slot : List ℕ). read_from (length t) (suc k) seq slots (with_slot seq slot (these a))) w.0
    ∙ ap (read_from (length t) (suc k) seq slots) (slot-new seq r a whole.0 tags.0 (apart-before r a t apart) (omega arith))
    ∙ read-from seq slots (suc k) (a ++ (r ∷ [])) t (subst Apart (sym (append_snoc a r t)) apart) tags.1 whole.1
    (omega (arith, length-append a (r ∷ []))) w.1
    ∙ ap these (append_snoc a r t)

pub read-written : (seq : ℕ) (slots : ℕ → List ℕ) (t : List Raw) → Proper t → Written seq slots 1 t
    → read_from (length t) 1 seq slots (these []) ≡ these t
read-written seq slots t p w = read-from seq slots 1 [] t (keys_apart t p.keyed) (keys_tagged t p.keyed) p.whole (omega (arith, p.few)) w

-- ---- what is read from bytes is a table that a log may hold
read_whole : (seq : ℕ) (slot : List ℕ) (r : Raw) → T (are_bytes slot) → decoded seq slot ≡ Some r → Whole r × (r.tag ≡ 0xFF → ⊥)
read_whole seq slot r t e =
    let s = decode_sealed seq slot r e in
    let bytes = subst (λ (l : List ℕ). T (are_bytes l)) s.bytes (bytes_take 12 slot t) in
    let rest = bytes_tail r.tag (r.id ∷ r.body) bytes in
    let twelve = ap length (sym s.bytes) ∙ length-take-le 12 slot (omega (arith, s.size)) in (
      record {
        tag_fits = bytes-head r.tag (r.id ∷ r.body) bytes;
        id_fits = bytes-head r.id r.body rest;
        ten = omega arith;
        bytes = bytes_tail r.id r.body rest;
      },
      s.tag,
    )

abbrev pub ProperRead : Read → Type 0
ProperRead too_many = Unit {0}
ProperRead (these t) = Proper t

module _ (seq : ℕ) (slots : ℕ → List ℕ) (bytes : (k : ℕ) → T (are_bytes (slots k))) where
  one-proper : (k : ℕ) (read : Read) → ProperRead read → ProperRead (with_slot seq (slots k) read)
  one-proper k too_many p = tt
  one-proper k (these t) p = go (decoded-or seq (slots k))
    where
      room : decoded seq (slots k) ≡ Some (raw_of (slots k)) → (b : Bool) → has_room limit (raw_of (slots k)) t ≡ b
          → ProperRead (pick b (these (absorbed (raw_of (slots k)) t)) too_many)
      room e true h = let w = read_whole seq (slots k) (raw_of (slots k)) (bytes k) e in absorb_proper (raw_of (slots k)) t w.0 w.1 h p
      room e false h = tt

      go : (decoded seq (slots k) ≡ None) ⊎ (decoded seq (slots k) ≡ Some (raw_of (slots k))) → ProperRead (with_record (decoded seq (slots k)) t)
      go (inl e) = subst (λ (o : Option Raw). ProperRead (with_record o t)) (sym e) p
      go (inr e) = subst (λ (o : Option Raw). ProperRead (with_record o t)) (sym e) (room e (has_room limit (raw_of (slots k)) t) refl)

  pub read-proper : (n k : ℕ) (read : Read) → ProperRead read → ProperRead (read_from n k seq slots read)
  unfolding read_from
  read-proper zero k read p = p
  read-proper (suc n) k read p = read-proper n (suc k) (with_slot seq (slots k) read) (one-proper k read p)
