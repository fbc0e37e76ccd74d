-- An append is safe: each try that is refused leaves the log as it was but for head, and only the try that is cut asks that no chance match occurs.
use Rattle.std.specs.Prelude.{None, Err}
use Rattle.basics.specs.Answers.{all_done, is_done, Answer}
use mathlib.Core.Path.{◌≡◌, refl, sym, ap, subst, ◌∙◌}
use mathlib.Core.Bool.{Bool, true, false, false≢true}
use mathlib.Core.List.{List, []}
use mathlib.Core.Logic.{◌⊎◌, inl, inr}
use Prim.Native.Nat.{ℕ, zero, suc, ◌+◌, ◌-◌, ◌^◌, ◌≤◌, ◌<◌}
use native.Mathlib.Omega.{arith}
use lib.Dec.{T, eqb}
use lib.ListN.{length, drop, length-drop}
use lib.Pow.{are_bytes}
use lib.Seq.{length-take-le}
use borrow.Author.Tests.{eqb-true, eqb-false}
use Rattle.basics.specs.Choice.{pick}
use Rattle.basics.specs.Lists.{part}
use Rattle.basics.specs.Little.{le_number}
use Rattle.basics.specs.declared.Refusal.TheVariants.{WriteError}
use Rattle.basics.proofs.ChoiceLaws.{by_test}
use Rattle.basics.proofs.ListsLaws.{bytes_take, bytes_drop}
use Rattle.basics.proofs.LittleLaws.{le_fits}
use Rattle.codec.specs.declared.Raw.{Raw}
use Rattle.codec.specs.Slots.{slot_of, header_of, decoded}
use Rattle.codec.proofs.SlotsRoundTrip.{header_sealed}
use Rattle.flash.specs.Image.{sectors_in, slot_at, with_slot}
use Rattle.flash.specs.Run.{Flash, Stepped, program}
use Rattle.flash.proofs.ImageSectors.{sectors_of}
use Rattle.flash.proofs.ImageView.{Fits, with-slot-here, with-slot-beside}
use Rattle.flash.proofs.ImageView as view
use Rattle.records.specs.declared.State.TheVariants.{Active}
use Rattle.records.specs.Table.{joined}
use Rattle.scan.specs.Choosing.{header_at}
use Rattle.scan.specs.Reading.{these, with_slot as reading, read_from}
use Rattle.scan.proofs.OpeningView.{read_same}
use Rattle.sectors.specs.Commits.{sector_after, commit_after}
use Rattle.sectors.specs.Appends.{SlotTries, tries_from, append_of}
use Rattle.sectors.proofs.SectorsTurns.{after-within}
use Rattle.demands.specs.Chance.{cut_at, ChanceMatch, Unmatched}
use Rattle.demands.specs.Seen.{Seen, active, holding}
use Rattle.demands.proofs.Torn.{slot-sixteen, slot-bytes, cut-length, cut-bytes, cut_record}
use Rattle.demands.proofs.Tables.{Proper, join_proper, Writable, slot-none, slot-written, read-last}
use Rattle.demands.proofs.Invariant.{Standing, Agrees, erased_quiet}
use Rattle.demands.proofs.Endings.{Fails, Cut, Ran, program_ran, Still, program_still, still_on}
use Rattle.demands.proofs.SafeFilling.{beyond_put}
use Rattle.demands.proofs.SafeCommits.{agrees-few, agrees-size, Wakes, Safe, done, failed, stopped, commit_still, commit-safe}

-- ---- head moves on
-- the sector's number was read from four bytes
seq-fits : (n : ℕ) (image : List ℕ) (size : Fits n image) (bytes : T (are_bytes image)) (s seq head next : ℕ) (t : List Raw)
    → Standing n image s seq head next t → seq < 2 ^ 32
seq-fits n image size bytes s seq head next t g =
    let slot = slot_at image s 0 in
    let headed = header_sealed 2 slot seq g.wins.own in
    let four : length (part 4 4 slot) ≡ 4 = length-take-le 4 (drop 4 slot) (simp length-drop (omega (arith, headed.size))) in
    let fits = le_fits (part 4 4 slot) (bytes_take 4 (drop 4 slot) (bytes_drop 4 slot (view.slot-bytes image bytes s 0))) in
    subst (λ (q : ℕ). q < 2 ^ 32) headed.seq-there (subst (λ (m : ℕ). le_number (part 4 4 slot) < 256 ^ m) four fits)

module _ (n : ℕ) (image : List ℕ) (s seq head next : ℕ) (old : List Raw) (g : Standing n image s seq head next old) (room : head < 256) where
  -- only the slot at head changed, and it makes of the table what it reads as
  standing_on : (left : List ℕ) (new : List Raw) → ((y i : ℕ) → (y ≡ s → ⊥) → i < 256 → slot_at left y i ≡ slot_at image y i)
      → ((i : ℕ) → (i ≡ head → ⊥) → slot_at left s i ≡ slot_at image s i)
      → reading seq (slot_at left s head) (these old) ≡ these new → Standing n left s seq (head + 1) next new
  standing_on left new away beside reads = record {
    placed = record { within = g.placed.within; low = omega arith; high = omega arith; later = g.placed.later };
    wins = record { within = g.wins.within; own = headers s ∙ g.wins.own; beats = λ y p u e. g.wins.beats y p u (sym (headers y) ∙ e) };
    erased = λ i l u. beside i (λ z. omega arith) ∙ g.erased i (omega arith) u;
    reads =
        let more : head + 1 - 1 ≡ suc (head - 1) = omega (arith, g.placed.low) in
        let here : 1 + (head - 1) ≡ head = omega (arith, g.placed.low) in
        ap (λ (m : ℕ). read_from m 1 seq (slot_at left s) (these [])) more
        ∙ read-last seq (slot_at left s) (head - 1) 1 (these [])
        ∙ ap (λ (k : ℕ). reading seq (slot_at left s k) (read_from (head - 1) 1 seq (slot_at left s) (these []))) here
        ∙ ap (reading seq (slot_at left s head))
        (read_same (slot_at left s) (slot_at image s) seq (head - 1) 1 (these []) (λ i l u. beside i (λ z. omega arith)) ∙ g.reads)
        ∙ reads;
  }
    where
      headers : (y : ℕ) → header_at 2 left y ≡ header_at 2 image y
      headers y = ap (header_of 2) (go (eqb y s) refl)
        where
          go : (b : Bool) → eqb y s ≡ b → slot_at left y 0 ≡ slot_at image y 0
          go true e =
              let here = eqb-true y s e in
              ap (λ (x : ℕ). slot_at left x 0) here
              ∙ beside 0 (λ z. omega (arith, g.placed.low))
              ∙ ap (λ (x : ℕ). slot_at image x 0) (sym here)
          go false e = away y 0 (eqb-false y s e) (omega arith)

  -- past a slot that stays erased
  standing-past : Standing n image s seq (head + 1) next old
  standing-past =
      standing_on image old (λ y i z u. refl) (λ i z. refl)
      (slot-none seq (slot_at image s head) (these old) (erased_quiet seq (slot_at image s) head (g.erased head (omega arith) room)))

module _ (n s seq : ℕ) (r : Raw) (old : List Raw) (w : Writable r old) (next : ℕ) where
  abbrev new : List Raw
  new = joined r old

  abbrev slot : List ℕ
  slot = slot_of seq r

  abbrev pub Here : List ℕ → ℕ → List Raw → Type 0
  Here image head t = Agrees n image (Active s seq head) next t

  module _ (image : List ℕ) (head : ℕ) (g : Here image head old) (room : head < 256) where
    size : Fits n image
    size = agrees-size n s image next old (Active s seq head) refl g

    pub fits : seq < 2 ^ 32
    fits = seq-fits n image size g.bytes s seq head next old g.found

    proper-new : Proper new
    proper-new = join_proper r old w.whole w.tagged w.room g.proper

    here-past : Here image (head + 1) old
    here-past = record {
      sized = g.sized;
      bytes = g.bytes;
      numbered = g.numbered;
      most = g.most;
      proper = g.proper;
      found = standing-past n image s seq head next old g.found room;
    }

    -- sixteen bytes at head, which make t of the table
    here_put : (bytes : List ℕ) → length bytes ≡ 16 → T (are_bytes bytes) → (left : List ℕ) → left ≡ with_slot s head bytes image
        → (t : List Raw) → Proper t
        → reading seq bytes (these old) ≡ these t → Here left (head + 1) t
    here_put bytes sixteen fine left is t p reads =
        let within = g.found.placed.within in
        let b = beyond_put n s within head image size g.bytes room bytes sixteen fine left is in
        record {
          sized = ap sectors_in b.size ∙ sectors_of n (agrees-few n s image next old (Active s seq head) refl g);
          bytes = b.bytes;
          numbered = g.numbered;
          most = g.most;
          proper = p;
          found =
              standing_on n image s seq head next old g.found room left t b.away
              (λ i z. ap (λ (l : List ℕ). slot_at l s i) is ∙ with-slot-beside n image size s within head room bytes sixteen i z)
              (ap (λ (l : List ℕ). reading seq l (these old))
              (ap (λ (l : List ℕ). slot_at l s head) is ∙ with-slot-here n image size s within head room bytes sixteen)
              ∙ reads);
        }

    here-whole : (left : List ℕ) → left ≡ with_slot s head slot image → Here left (head + 1) new
    here-whole left is =
        here_put slot (slot-sixteen seq fits r w.whole) (slot-bytes seq fits r w.whole) left is new proper-new
        (slot-written seq r old w)

    -- a record that was cut is none or whole, but for the chance match
    here-cut : (low : ℕ) → low ≤ head → (k : ℕ) → k < 16 → (left : List ℕ) → left ≡ with_slot s head (cut_at k slot) image
        → Unmatched (Active s seq low) r left → (Here left (head + 1) old) ⊎ (Here left (head + 1) new)
    here-cut low under k h left is lucky = go (cut_record seq fits r w.whole k (omega arith) unlucky)
      where
        unlucky : (m : ChanceMatch seq slot) → m.k ≡ k → ⊥
        unlucky m e =
            let sixteen = cut-length slot (slot-sixteen seq fits r w.whole) k (omega arith) in
            lucky head under room m
            (ap (λ (l : List ℕ). slot_at l s head) is
            ∙ with-slot-here n image size s g.found.placed.within head room (cut_at k slot) sixteen
            ∙ ap (λ (j : ℕ). cut_at j slot) (sym e))

        go : (decoded seq (cut_at k slot) ≡ None) ⊎ (cut_at k slot ≡ slot) → (Here left (head + 1) old) ⊎ (Here left (head + 1) new)
        go (inl e) =
            let sixteen = slot-sixteen seq fits r w.whole in
            inl
            (here_put (cut_at k slot) (cut-length slot sixteen k (omega arith))
            (cut-bytes slot sixteen k (omega arith) (slot-bytes seq fits r w.whole)) left is old g.proper
            (slot-none seq (cut_at k slot) (these old) e))
        go (inr e) = inr (here-whole left (is ∙ ap (λ (l : List ℕ). with_slot s head l image) e))

  -- ---- the tries
  module _ (low : ℕ) (P : Seen → Type 0) (p : P (active s seq old)) where
    -- what must be known of the image of an append that was cut
    abbrev Lucky : List ℕ → Type 0
    Lucky left = Unmatched (Active s seq low) r left

    abbrev Woken : List ℕ → Type 0
    Woken image = Wakes n P (holding new) image

    data Attempted (o : SlotTries) : Type 0 where
      filled : o.full ≡ true → o.head ≤ 256 → o.flash.cut ≡ false → Here o.flash.image o.head old → Attempted o
      written : o.full ≡ false → is_done o.answer ≡ true → o.flash.cut ≡ false → Here o.flash.image o.head new → Attempted o
      refused : o.full ≡ false → Fails o.answer → o.flash.cut ≡ false → Here o.flash.image o.head old → Attempted o
      cut : Fails o.answer → Cut o.flash → (Lucky o.flash.image → Woken o.flash.image) → Attempted o

    abbrev StillTried : Flash → SlotTries → Type 0
    StillTried f o = Still f o.answer o.flash

    tries_still : (m head : ℕ) (last : Answer) (f : Flash) → Cut f → Fails last → StillTried f (tries_from m s head slot last f)
    unfolding tries_from
    tries_still zero head last f c h = record { fails = h; same = refl; cut = c }
    tries_still (suc m) head last f c h =
        by_test (StillTried f) (eqb head 256) _ _ (λ _. record { fails = h; same = refl; cut = c })
        (λ _.
        by_test (StillTried f) (is_done (program s head slot f).answer) _ _
        (λ d. absurd (false≢true (sym (program_still f c s head slot).fails ∙ d)))
        (λ _.
        let e = program_still f c s head slot in
        still_on f (program s head slot f).flash _ (program s head slot f).answer _ e
        (tries_still m (head + 1) (program s head slot f).answer (program s head slot f).flash e.cut e.fails)))

    -- one try, and `rest` is what follows where it failed
    one_try : (head : ℕ) (f : Flash) (o : Stepped) (rest : SlotTries) → head < 256 → low ≤ head → Here f.image head old → Ran s head slot f o
        → (o.flash.cut ≡ false → Here o.flash.image (head + 1) old → Fails o.answer → Attempted rest)
        → (Cut o.flash → Fails o.answer → StillTried o.flash rest)
        → Attempted (pick (is_done o.answer) (record { full = false; answer = all_done; head = head + 1; flash = o.flash }) rest)
    one_try head f o rest h under g (Ran.refused i e c is) on still =
        rw e (on c (subst (λ (l : List ℕ). Here l (head + 1) old) (sym is) (here-past f.image head g h)) e)
    one_try head f o rest h under g (Ran.done i e c is u) on still = rw e (written refl refl c (here-whole f.image head g h o.flash.image is))
    one_try head f o rest h under g (Ran.stopped i e c k l is) on still =
        let z = still c e in
        rw e
        (cut z.fails z.cut
        (λ lucky.
        subst Woken (sym z.same)
        (go (here-cut f.image head g h low under k l o.flash.image is (subst Lucky z.same lucky)))))
      where
        go : (Here o.flash.image (head + 1) old) ⊎ (Here o.flash.image (head + 1) new) → Woken o.flash.image
        go (inl a) = record { state = Active s seq (head + 1); next = next; t = old; agrees = a; shows = inl p }
        go (inr a) = record { state = Active s seq (head + 1); next = next; t = new; agrees = a; shows = inr refl }

    tries_attempted : (m head : ℕ) (last : Answer) (f : Flash) → low ≤ head → f.cut ≡ false → Fails last → Here f.image head old
        → Attempted (tries_from m s head slot last f)
    unfolding tries_from
    tries_attempted zero head last f under on h g = refused refl h on g
    tries_attempted (suc m) head last f under on h g =
        by_test Attempted (eqb head 256) _ _ (λ _. filled refl g.found.placed.high on g)
        (λ e.
        let unlike = eqb-false head 256 e in
        let room : head < 256 = omega (arith, g.found.placed.high) in
        one_try head f (program s head slot f) _ room under g
        (program_ran s head slot f on (g.found.erased head (omega arith) room)
        (slot-sixteen seq (fits f.image head g room) r w.whole) (slot-bytes seq (fits f.image head g room) r w.whole))
        (λ c i z. tries_attempted m (head + 1) (program s head slot f).answer (program s head slot f).flash (omega arith) c z i)
        (λ c z. tries_still m (head + 1) (program s head slot f).answer (program s head slot f).flash c z))

    -- ---- the append
    pub append-safe : (f : Flash) → f.cut ≡ false → Here f.image low old → Safe n Lucky P old new (append_of n s seq low next r new f)
    unfolding append_of
    append-safe f on g = go (tries_from 3 s low slot (Err WriteError) f) (tries_attempted 3 low (Err WriteError) f (omega arith) on refl g)
      where
        go : (o : SlotTries) → Attempted o
            → Safe n Lucky P old new
            (pick o.full (commit_after n s new (Active s seq o.head) next o.flash)
            (record { answer = o.answer; state = Active s seq o.head; next = next; flash = o.flash }))
        go o (filled e l c i) =
            rw e
            (commit-safe n s Lucky P (Active s seq o.head) refl old new
            (join_proper r old w.whole w.tagged w.room g.proper) p n (sector_after n s) (Err WriteError) next o.flash
            (after-within n s g.found.placed.within) c refl i)
        go o (written e d c i) = rw e (done d c i refl)
        go o (refused e d c i) = rw e (failed d c i p)
        go o (cut d c i) =
            by_test (Safe n Lucky P old new) o.full _ _
            (λ _.
            let z = commit_still n n s (sector_after n s) new (Err WriteError) (Active s seq o.head) next o.flash c refl in
            stopped z.fails z.cut (λ lucky. subst Woken (sym z.same) (i (subst Lucky z.same lucky))))
            (λ _. stopped d c i)
