-- The invariant between an image and a log: opening any image establishes it, and it says what opening finds.
use Rattle.std.specs.Prelude.{Option, Some, None}
use Rattle.basics.specs.Answers.{all_done}
use mathlib.Core.Path.{◌≡◌, refl, sym, ap, subst, ◌∙◌}
use mathlib.Core.Bool.{Bool, true, false, false≢true}
use mathlib.Core.List.{List, []}
use mathlib.Core.Logic.{◌⊎◌, inl, inr}
use Prim.Native.Nat.{ℕ, suc, ◌+◌, ◌-◌, ◌≤◌, ◌<◌, min, max}
use native.Mathlib.Omega.{arith}
use lib.Dec.{T, eqb, leb}
use lib.ListN.{length, replicate}
use lib.Pow.{are_bytes}
use borrow.Author.Tests.{eq-eqb, ne_eqb, eqb-true, eqb-false, leb-true, leb-false}
use Rattle.basics.specs.Lists.{all_are}
use Rattle.basics.proofs.ListsLaws.{all_replicate, all_eq}
use Rattle.codec.specs.declared.Raw.{Raw}
use Rattle.codec.proofs.SlotsLaws.{erased-none}
use Rattle.codec.specs.Slots.{decoded}
use Rattle.flash.specs.Image.{sectors_in, slot_at}
use Rattle.flash.proofs.ImageSectors.{sectors-whole}
use Rattle.flash.proofs.ImageView.{slot-length, slot-bytes}
use Rattle.records.specs.declared.State.{State}
use Rattle.records.specs.declared.State.TheVariants.{Unformatted, Failed, Active}
use Rattle.records.specs.declared.Log.{Log}
use Rattle.records.specs.Logs.{log_of, records_of}
use Rattle.records.proofs.LogsPlaces.{places-take}
use Rattle.scan.specs.declared.Opened.{Opened}
use Rattle.scan.specs.Choosing.{header_at, chosen_of, Wins}
use Rattle.scan.specs.Reading.{Read, too_many, these, read_from, records_in, head_in}
use Rattle.scan.specs.Opening.{region_read, region_chosen, scan_of, next_of, log_from, open_of}
use Rattle.scan.proofs.ChoosingWinner.{Right, chosen_right, winner_chosen, none-chosen}
use Rattle.scan.proofs.OpeningView.{head_right}
use Rattle.records.specs.Fitting.{seq_max, state_fits, log_fits}
use Rattle.records.proofs.FittingLaws.{Placed, placed-state, log-fits}
use Rattle.demands.specs.Seen.{active, seen_by, seen, head_of}
use Rattle.demands.proofs.Tables.{Proper, proper-none, ProperRead, read-proper, read-on, read_quiet}

-- ---- the invariant
-- an Active log of an image of n sectors: its sector wins, is erased from head on, and below head reads as the table
pub record Standing (n : ℕ) (image : List ℕ) (s seq head next : ℕ) (t : List Raw) : Type 0 where
  pub placed : Placed n s seq head next
  pub wins : Wins (header_at 2 image) n s seq
  pub erased : (k : ℕ) → head ≤ k → k < 256 → slot_at image s k ≡ replicate 16 0xFF
  pub reads : read_from (head - 1) 1 seq (slot_at image s) (these []) ≡ these t

abbrev pub Found : State → ℕ → List ℕ → ℕ → List Raw → Type 0
Found Unformatted n image next t = (t ≡ []) × (0 < n) × ((s : ℕ) → s < n → header_at 2 image s ≡ None)
Found Failed n image next t = (t ≡ []) × ((open_of image).log.state ≡ Failed)
Found (Active s seq head) n image next t = Standing n image s seq head next t

-- an image of n sectors, and the state, next_seq and records of a log
pub record Agrees (n : ℕ) (image : List ℕ) (state : State) (next : ℕ) (t : List Raw) : Type 0 where
  pub sized : sectors_in (length image) ≡ n
  pub bytes : T (are_bytes image)
  pub numbered : 0 < next
  pub most : next ≤ seq_max
  pub proper : Proper t
  pub found : Found state n image next t

pub record Inv (image : List ℕ) (log : Log) : Type 0 where
  pub is : log ≡ log_of log.state log.next_seq (records_of log)
  pub agrees : Agrees (sectors_in (length image)) image log.state log.next_seq (records_of log)

pub inv_of : (n : ℕ) (image : List ℕ) (state : State) (next : ℕ) (t : List Raw) → Agrees n image state next t → Inv image (log_of state next t)
inv_of n image state next t a = record {
  is = ap (log_of state next) (sym (places-take t));
  agrees =
      subst (λ (l : List Raw). Agrees (sectors_in (length image)) image state next l) (sym (places-take t))
      (subst (λ (m : ℕ). Agrees m image state next t) (sym a.sized) a);
}

-- the log passes the BadLog test
pub agrees-fits : (n : ℕ) (image : List ℕ) (state : State) (next : ℕ) (t : List Raw) → Agrees n image state next t
    → log_fits n (log_of state next t) ≡ true
agrees-fits n image state next t a =
    log-fits n state next t (λ e. omega (arith, a.numbered)) a.proper.few (stated state a.found) a.proper.keyed
  where
    stated : (z : State) → Found z n image next t → state_fits n z next (length t) ≡ true
    stated Unformatted f = rw f.0
    stated Failed f = rw f.0
    stated (Active s seq head) f = placed-state n s seq head next (length t) f.placed

pub inv-fits : (image : List ℕ) (log : Log) → Inv image log → log_fits (sectors_in (length image)) log ≡ true
inv-fits image log i =
    ap (log_fits (sectors_in (length image))) i.is
    ∙ agrees-fits (sectors_in (length image)) image log.state log.next_seq (records_of log) i.agrees

-- ---- what opening finds
-- erased slots hold no record
pub erased_quiet : (seq : ℕ) (slots : ℕ → List ℕ) (k : ℕ) → slots k ≡ replicate 16 0xFF → decoded seq (slots k) ≡ None
erased_quiet seq slots k e = erased-none seq (slots k) (ap (all_are 0xFF) e ∙ all_replicate 16 0xFF)

-- all slots of a sector that is erased from head on read as those below head
all-below : (seq : ℕ) (slots : ℕ → List ℕ) (head : ℕ) → 1 ≤ head → head ≤ 256 → ((k : ℕ) → head ≤ k → k < 256 → slots k ≡ replicate 16 0xFF)
    → records_in seq slots ≡ read_from (head - 1) 1 seq slots (these [])
all-below seq slots head low high erased =
    let all : 255 ≡ head - 1 + (256 - head) = omega arith in
    ap (λ (n : ℕ). read_from n 1 seq slots (these [])) all
    ∙ read-on seq slots (head - 1) (256 - head) 1 (these [])
    ∙ read_quiet seq slots (256 - head) (1 + (head - 1)) (read_from (head - 1) 1 seq slots (these []))
    (λ k l u. erased_quiet seq slots k (erased k (omega arith) (omega arith)))

opened : (image : List ℕ) → 0 < sectors_in (length image)
    → open_of image ≡ record { answer = all_done; log = log_from (region_chosen image (chosen_of 2 (sectors_in (length image)) image)) }
unfolding open_of scan_of
opened image h = rw (ne_eqb (sectors_in (length image)) 0 (λ e. omega arith))

open_bad : (image : List ℕ) → sectors_in (length image) ≡ 0 → (open_of image).log ≡ log_of Failed 1 []
unfolding open_of
open_bad image e = rw (eq-eqb (sectors_in (length image)) 0 e)

module _ (n : ℕ) (image : List ℕ) (sized : sectors_in (length image) ≡ n) where
  module _ (s seq head next : ℕ) (t : List Raw) (g : Standing n image s seq head next t) where
    abbrev found_head : ℕ
    found_head = head_in (slot_at image s)

    standing_open : (open_of image).log ≡ log_of (Active s seq found_head) (next_of (Active s seq found_head)) t
    standing_open =
        let within = g.placed.within in
        let chosen : chosen_of 2 (sectors_in (length image)) image ≡ Some (s, seq) =
        ap (λ (m : ℕ). chosen_of 2 m image) sized ∙ winner_chosen (header_at 2 image) n s seq g.wins in
        let records : records_in seq (slot_at image s) ≡ these t =
        all-below seq (slot_at image s) head g.placed.low g.placed.high g.erased ∙ g.reads in
        ap (λ (o : Opened). o.log) (opened image (omega arith))
        ∙ ap (λ (c : Option (ℕ × ℕ)). log_from (region_chosen image c)) chosen
        ∙ ap (λ (r : Read). log_from (region_read s seq found_head r)) records

    -- what lies just below the head found isn't erased
    head-within : found_head ≤ head
    head-within =
        let h = head_right (slot_at image s) in
        go h.below h.high
      where
        go : (found_head ≡ 1) ⊎ ((k : ℕ) × (found_head ≡ suc k) × (all_are 0xFF (slot_at image s k) ≡ false)) → found_head ≤ 256 → found_head ≤ head
        go (inl e) u = omega (arith, g.placed.low)
        go (inr p) u = used (leb head p.0) refl
          where
            used : (b : Bool) → leb head p.0 ≡ b → found_head ≤ head
            used true e =
                let l = leb-true head p.0 e in
                absurd (false≢true (sym p.2 ∙ ap (all_are 0xFF) (g.erased p.0 l (omega (arith, p.1))) ∙ all_replicate 16 0xFF))
            used false e = let l = leb-false head p.0 e in omega (arith, p.1)

  none_open : ((s : ℕ) → s < n → header_at 2 image s ≡ None) → 0 < n → (open_of image).log ≡ log_of Unformatted 1 []
  none_open none h =
      let chosen : chosen_of 2 (sectors_in (length image)) image ≡ None =
      ap (λ (m : ℕ). chosen_of 2 m image) sized ∙ none-chosen (header_at 2 image) n none in
      ap (λ (o : Opened). o.log) (opened image (omega arith))
      ∙ ap (λ (c : Option (ℕ × ℕ)). log_from (region_chosen image c)) chosen

  -- the invariant says what opening finds, and that the head found is no higher than the one held
  pub agrees_open : (state : State) (next : ℕ) (t : List Raw) → Found state n image next t
      → (seen (open_of image).log ≡ seen_by state t) × (head_of (open_of image).log.state ≤ head_of state)
  agrees_open Unformatted next t f =
      let e = none_open f.2 f.1 in
      (ap seen e, subst (λ (l : Log). head_of l.state ≤ 0) (sym e) (omega arith))
  agrees_open Failed next t f =
      (ap (λ (z : State). seen_by z (records_of (open_of image).log)) f.1, subst (λ (z : State). head_of z ≤ 0) (sym f.1) (omega arith))
  agrees_open (Active s seq head) next t f =
      let e = standing_open s seq head next t f in
      (ap seen e ∙ ap (active s seq) (places-take t), subst (λ (l : Log). head_of l.state ≤ head) (sym e) (head-within s seq head next t f))

pub inv_open : (image : List ℕ) (log : Log) → Inv image log
    → (seen (open_of image).log ≡ seen log) × (head_of (open_of image).log.state ≤ head_of log.state)
inv_open image log i = agrees_open (sectors_in (length image)) image refl log.state log.next_seq (records_of log) i.agrees.found

-- ---- opening any image gives a log that agrees with it
module _ (image : List ℕ) (bytes : T (are_bytes image)) where
  abbrev n : ℕ
  n = sectors_in (length image)

  failed-inv : (open_of image).log.state ≡ Failed → Inv image (log_of Failed 1 [])
  failed-inv e =
      inv_of n image Failed 1 []
      (record { sized = refl; bytes = bytes; numbered = omega arith; most = omega arith; proper = proper-none; found = (refl, e) })

  next-later : (seq : ℕ) → (seq < max 1 (min (seq + 1) seq_max)) ⊎ (max 1 (min (seq + 1) seq_max) ≡ seq_max)
  next-later seq = go (leb seq_max (seq + 1)) refl
    where
      go : (b : Bool) → leb seq_max (seq + 1) ≡ b → (seq < max 1 (min (seq + 1) seq_max)) ⊎ (max 1 (min (seq + 1) seq_max) ≡ seq_max)
      go true e = let h = leb-true seq_max (seq + 1) e in inr (omega arith)
      go false e = let h = leb-false seq_max (seq + 1) e in inl (omega arith)

  read-inv : (s seq : ℕ) → Wins (header_at 2 image) n s seq → (read : Read) → records_in seq (slot_at image s) ≡ read → ProperRead read
      → (open_of image).log ≡ log_from (region_read s seq (head_in (slot_at image s)) read)
      → Inv image (log_from (region_read s seq (head_in (slot_at image s)) read))
  read-inv s seq w too_many e p o = failed-inv (ap (λ (l : Log). l.state) o)
  read-inv s seq w (these t) e p o =
      let heads = head_right (slot_at image s) in
      let size = sectors-whole (length image) (omega (arith, w.within)) in
      let erased : (k : ℕ) → head_in (slot_at image s) ≤ k → k < 256 → slot_at image s k ≡ replicate 16 0xFF =
      λ k l u. all_eq 0xFF (slot_at image s k) (heads.behind k l u) ∙ ap (λ (m : ℕ). replicate m 0xFF) (slot-length n image size s w.within k u) in
      inv_of n image (Active s seq (head_in (slot_at image s))) (next_of (Active s seq (head_in (slot_at image s)))) t (record {
        sized = refl;
        bytes = bytes;
        numbered = omega arith;
        most = omega arith;
        proper = p;
        found = record {
          placed = record { within = w.within; low = heads.low; high = heads.high; later = next-later seq };
          wins = w;
          erased = erased;
          reads = sym (all-below seq (slot_at image s) (head_in (slot_at image s)) heads.low heads.high erased) ∙ e;
        };
      })

  chosen-inv : 0 < n → (c : Option (ℕ × ℕ)) → Right (header_at 2 image) n c → (open_of image).log ≡ log_from (region_chosen image c)
      → Inv image (log_from (region_chosen image c))
  chosen-inv h None r o =
      inv_of n image Unformatted 1 []
      (record { sized = refl; bytes = bytes; numbered = omega arith; most = omega arith; proper = proper-none; found = (refl, h, r) })
  chosen-inv h (Some (s, seq)) w o =
      read-inv s seq w (records_in seq (slot_at image s)) refl
      (read-proper seq (slot_at image s) (λ k. slot-bytes image bytes s k) 255 1 (these []) proper-none) o

  pub open_inv : Inv image (open_of image).log
  open_inv = go (eqb n 0) refl
    where
      go : (b : Bool) → eqb n 0 ≡ b → Inv image (open_of image).log
      go true e = let o = open_bad image (eqb-true n 0 e) in subst (Inv image) (sym o) (failed-inv (ap (λ (l : Log). l.state) o))
      go false e =
          let there = eqb-false n 0 e in
          let h : 0 < n = omega arith in
          let o : (open_of image).log ≡ log_from (region_chosen image (chosen_of 2 n image)) = ap (λ (x : Opened). x.log) (opened image h) in
          subst (Inv image) (sym o) (chosen-inv h (chosen_of 2 n image) (chosen_right (header_at 2 image) n) o)
