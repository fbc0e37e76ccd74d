-- No listing is longer than `longest`: an image of bytes opens to small numbers and at most 32 records of bytes.
use Rattle.std.specs.Prelude.{Option, Some, None, Err}
use Rattle.basics.specs.Answers.{all_done, is_done}
use mathlib.Core.Path.{◌≡◌, refl, sym, ap}
use mathlib.Core.Bool.{Bool, true, false, ◌||◌, false≢true}
use mathlib.Core.List.{List, [], ◌∷◌, ◌++◌}
use Prim.Native.Nat.{ℕ, zero, suc, ◌+◌, ◌*◌, ◌^◌, ◌≤◌, ◌<◌}
use native.Mathlib.Omega.{arith}
use lib.Dec.{T, eqb, ltb}
use lib.ListN.{length, get_or, take, drop, length-append, length-take, length-drop}
use lib.Pow.{are_bytes}
use borrow.Author.Tests.{eqb-true, ltb-true}
use Rattle.basics.specs.Choice.{pick}
use Rattle.basics.specs.Lists.{all_are, part}
use Rattle.basics.specs.declared.Refusal.TheVariants.{BadImage}
use Rattle.basics.proofs.ChoiceLaws.{by_test, first}
use Rattle.basics.proofs.ListsLaws.{bytes-head, bytes_tail, bytes_cons, bytes_take, bytes_drop}
use Rattle.basics.proofs.LittleLaws.{le_fits}
use Rattle.basics.specs.Little.{le_number}
use Rattle.codec.specs.declared.Raw.{Raw}
use Rattle.codec.specs.Slots.{raw_of, is_header, header_of, crc_under, is_record_with, decoded_with, decoded}
use Rattle.flash.specs.Image.{addr, sectors_in, slot_at}
use Rattle.flash.proofs.ImageSectors.{sectors-fit}
use Rattle.records.specs.declared.Log.{Log}
use Rattle.records.specs.declared.State.TheVariants.{Failed}
use Rattle.records.specs.Logs.{places, log_of}
use Rattle.records.specs.Table.{limit, holds, has_room, same_key, falls, absorbed}
use Rattle.records.proofs.LogsPlaces.{places-take}
use Rattle.scan.specs.declared.Opened.{Opened}
use Rattle.scan.specs.Choosing.{header_at, chosen_of}
use Rattle.scan.specs.Reading.{with_record, Read, too_many, these, with_slot, read_from, head_from, records_in, head_in}
use Rattle.scan.specs.Opening.{region_read, region_chosen, scan_of, log_from, open_of}
use Rattle.scan.proofs.ChoosingWinner.{Right, chosen_right, valid_same, valid_invalid}
use Rattle.text.proofs.TextDecimal.{decimal-short}
use Rattle.text.specs.Text.{decimal}
use Rattle.list.specs.Listing.{number, line, record_line, record_lines, active_line, bad_image, state_listing, listing_of, longest}

-- ---- numbers and lines
number_short : (k x behind : ℕ) → 0 < k → x < 10 ^ k → length (number x behind) ≤ k + 1
number_short k x behind p h = omega (arith, length-append (decimal x) (behind ∷ []), decimal-short k x p h)

line-short : (x : ℕ) (xs : List ℕ) → x < 256 → T (are_bytes xs) → length (line x xs) ≤ 4 + 4 * length xs
unfolding line
line-short x [] h t = omega (arith, number_short 3 x 10 (omega arith) (omega arith))
line-short x (y ∷ ys) h t =
    omega (
      arith,
      length-append (number x 32) (line y ys),
      number_short 3 x 32 (omega arith) (omega arith),
      line-short y ys (bytes-head y ys t) (bytes_tail y ys t),
    )

-- ---- records
Short : Raw → Type 0
Short r = length (record_line r) ≤ 48

unfoldable AllShort : List Raw → Type 0
AllShort [] = Unit {0}
AllShort (r ∷ rs) = Short r × AllShort rs

lines_short : (rs : List Raw) → AllShort rs → length (record_lines rs) ≤ 48 * length rs
unfolding AllShort record_lines Short
lines_short [] a = omega arith
lines_short (r ∷ rs) a = omega (arith, length-append (record_line r) (record_lines rs), a.0, lines_short rs a.1)

bytes_get : (xs : List ℕ) (i : ℕ) → T (are_bytes xs) → get_or xs i 0 < 256
bytes_get [] i t = omega arith
bytes_get (x ∷ xs) zero t = bytes-head x xs t
bytes_get (x ∷ xs) (suc i) t = bytes_get xs i (bytes_tail x xs t)

bytes-short : (tag id : ℕ) (body : List ℕ) → tag < 256 → id < 256 → T (are_bytes body) → length body ≤ 10 → length (line tag (id ∷ body)) ≤ 48
bytes-short tag id body h g t l = omega (arith, line-short tag (id ∷ body) h (bytes_cons id body g t))

-- a record, if there is one
ShortIn : Option Raw → Type 0
ShortIn None = Unit {0}
ShortIn (Some r) = Short r

decoded-short : (seq : ℕ) (slot : List ℕ) → T (are_bytes slot) → ShortIn (decoded seq slot)
unfolding decoded decoded_with ShortIn Short
decoded-short seq slot t =
    by_test ShortIn (is_record_with (crc_under seq (take 12 slot)) slot) (Some (raw_of slot)) None
    (λ e.
    bytes-short (get_or slot 0 0) (get_or slot 1 0) (part 2 10 slot) (bytes_get slot 0 t) (bytes_get slot 1 t)
    (bytes_take 10 (drop 2 slot) (bytes_drop 2 slot t)) (simp length-take (omega arith)))
    (λ e. tt)

absorbed-short : (r : Raw) (t : List Raw) → Short r → AllShort t → AllShort (absorbed r t)
unfolding AllShort absorbed
absorbed-short r [] s a = (s, tt)
absorbed-short r (e ∷ es) s a =
    by_test AllShort (same_key e r) (pick (falls r e) (e ∷ es) (r ∷ es)) (e ∷ absorbed r es)
    (λ k. by_test AllShort (falls r e) (e ∷ es) (r ∷ es) (λ f. a) (λ f. (s, a.1)))
    (λ k. (a.0, absorbed-short r es s a.1))

-- ---- the number of records
absorbed-most : (r : Raw) (t : List Raw) → length (absorbed r t) ≤ suc (length t)
unfolding absorbed
absorbed-most r [] = omega arith
absorbed-most r (e ∷ es) =
    by_test (λ (l : List Raw). length l ≤ suc (suc (length es))) (same_key e r) (pick (falls r e) (e ∷ es) (r ∷ es)) (e ∷ absorbed r es)
    (λ k. by_test (λ (l : List Raw). length l ≤ suc (suc (length es))) (falls r e) (e ∷ es) (r ∷ es) (λ f. omega arith) (λ f. omega arith))
    (λ k. omega (arith, absorbed-most r es))

absorbed-held : (r : Raw) (t : List Raw) → holds r.tag r.id t ≡ true → length (absorbed r t) ≤ length t
unfolding absorbed holds
absorbed-held r [] h = absurd (false≢true h)
absorbed-held r (e ∷ es) h = go (same_key e r) h (absorbed-held r es)
  where
    go : (b : Bool) → (b || holds r.tag r.id es) ≡ true → (holds r.tag r.id es ≡ true → length (absorbed r es) ≤ length es)
        → length (pick b (pick (falls r e) (e ∷ es) (r ∷ es)) (e ∷ absorbed r es)) ≤ suc (length es)
    go true h ih = by_test (λ (l : List Raw). length l ≤ suc (length es)) (falls r e) (e ∷ es) (r ∷ es) (λ f. omega arith) (λ f. omega arith)
    go false h ih = omega (arith, ih h)

absorbed-fits : (r : Raw) (t : List Raw) → has_room limit r t ≡ true → length t ≤ limit → length (absorbed r t) ≤ limit
absorbed-fits r t h l = go (holds r.tag r.id t) refl h
  where
    go : (b : Bool) → holds r.tag r.id t ≡ b → (b || ltb (length t) limit) ≡ true → length (absorbed r t) ≤ limit
    go true e h = omega (arith, absorbed-held r t e)
    go false e h = omega (arith, absorbed-most r t, ltb-true (length t) limit h)

-- ---- the slots of a sector
Good : Read → Type 0
Good too_many = Unit {0}
Good (these t) = (length t ≤ limit) × AllShort t

record_good : (o : Option Raw) (held : List Raw) → ShortIn o → Good (these held) → Good (with_record o held)
unfolding Good ShortIn
record_good None held s g = g
record_good (Some r) held s g =
    by_test Good (has_room limit r held) (these (absorbed r held)) too_many
    (λ f. (absorbed-fits r held f g.0, absorbed-short r held s g.1)) (λ f. tt)

slot_good : (seq : ℕ) (slot : List ℕ) (read : Read) → T (are_bytes slot) → Good read → Good (with_slot seq slot read)
unfolding Good
slot_good seq slot too_many t g = tt
slot_good seq slot (these held) t g = record_good (decoded seq slot) held (decoded-short seq slot t) g

read_good : (n k seq : ℕ) (slots : ℕ → List ℕ) (read : Read) → ((k : ℕ) → T (are_bytes (slots k))) → Good read → Good (read_from n k seq slots read)
unfolding read_from
read_good zero k seq slots read t g = g
read_good (suc n) k seq slots read t g = read_good n (suc k) seq slots (with_slot seq (slots k) read) t (slot_good seq (slots k) read (t k) g)

head-most : (n k head m : ℕ) (slots : ℕ → List ℕ) → k + n ≤ m → head ≤ m → head_from n k slots head ≤ m
unfolding head_from
head-most zero k head m slots h g = g
head-most (suc n) k head m slots h g =
    head-most n (suc k) (pick (all_are 0xFF (slots k)) head (suc k)) m slots (omega arith)
    (by_test (λ (x : ℕ). x ≤ m) (all_are 0xFF (slots k)) head (suc k) (λ e. g) (λ e. omega arith))

slot-bytes : (image : List ℕ) (s k : ℕ) → T (are_bytes image) → T (are_bytes (slot_at image s k))
unfolding slot_at
slot-bytes image s k t = bytes_take 16 (drop (addr s k) image) (bytes_drop (addr s k) image t)

-- ---- the winner's seq
seq-fits : (version seq : ℕ) (slot : List ℕ) → T (are_bytes slot) → header_of version slot ≡ Some seq → seq < 2 ^ 32
unfolding header_of
seq-fits version seq slot t =
    by_test (λ (h : Option ℕ). h ≡ Some seq → seq < 2 ^ 32) (is_header version slot) (Some (le_number (part 4 4 slot))) None
    (λ e v.
    let long = eqb-true (length slot) 16 (first (eqb (length slot) 16) _ e) in
    let four : length (part 4 4 slot) ≡ 4 = simp (length-take, length-drop) (omega arith) in
    let fits = rw four at (le_fits (part 4 4 slot) (bytes_take 4 (drop 4 slot) (bytes_drop 4 slot t))) in
    omega (arith, valid_same (Some seq) seq (le_number (part 4 4 slot)) refl (sym v), fits))
    (λ e v. absurd (valid_invalid None seq refl v))

-- ---- the log
pub record Fits (l : Log) : Type 0 where
  pub few : l.count ≤ limit
  pub short : length (state_listing l l.state) ≤ longest

active-short : (s seq head count : ℕ) → s < 16 → seq < 2 ^ 32 → head ≤ 256 → count ≤ limit → length (active_line s seq head count) ≤ 28
unfolding line
active-short s seq head count hs hq hh hc =
    omega (
      arith,
      length-append (number s 32) (number seq 32 ++ (number head 32 ++ number count 10)),
      length-append (number seq 32) (number head 32 ++ number count 10),
      length-append (number head 32) (number count 10),
      number_short 2 s 32 (omega arith) (omega arith),
      number_short 10 seq 32 (omega arith) (omega arith),
      number_short 3 head 32 (omega arith) (omega arith),
      number_short 2 count 10 (omega arith) (omega arith),
    )

read_fits : (s seq head : ℕ) (read : Read) → s < 16 → seq < 2 ^ 32 → head ≤ 256 → Good read → Fits (log_from (region_read s seq head read))
unfolding Good
read_fits s seq head too_many hs hq hh g = record { few = omega arith; short = omega arith }
read_fits s seq head (these t) hs hq hh g = record {
  few = g.0;
  short = omega (
    arith,
    length-append (active_line s seq head (length t)) (record_lines (take (length t) (places t))),
    active-short s seq head (length t) hs hq hh g.0,
    ap (λ (l : List Raw). length (record_lines l)) (places-take t),
    lines_short t g.1,
  );
}

chosen-fits : (image : List ℕ) → T (are_bytes image) → (n : ℕ) → n ≤ 16 → (b : Option (ℕ × ℕ)) → Right (header_at 2 image) n b
    → Fits (log_from (region_chosen image b))
unfolding Good AllShort
chosen-fits image t n most None g = record { few = omega arith; short = omega arith }
chosen-fits image t n most (Some (s, seq)) g =
    read_fits s seq (head_in (slot_at image s)) (records_in seq (slot_at image s))
    (omega (arith, g.within))
    (seq-fits 2 seq (slot_at image s 0) (slot-bytes image s 0 t) g.own)
    (head-most 255 1 1 256 (slot_at image s) (omega arith) (omega arith))
    (read_good 255 1 seq (slot_at image s) (these []) (λ k. slot-bytes image s k t) (omega arith, tt))

-- what an image of bytes opens to
pub opened-fits : (image : List ℕ) → T (are_bytes image) → Fits (open_of image).log
unfolding open_of scan_of
opened-fits image t =
    by_test (λ (o : Opened). Fits o.log) (eqb (sectors_in (length image)) 0) (record { answer = Err BadImage; log = log_of Failed 1 [] })
    (record { answer = all_done; log = log_from (region_chosen image (chosen_of 2 (sectors_in (length image)) image)) })
    (λ e. record { few = omega arith; short = omega arith })
    (λ e.
    chosen-fits image t (sectors_in (length image)) (sectors-fit (length image)).0 (chosen_of 2 (sectors_in (length image)) image)
    (chosen_right (header_at 2 image) (sectors_in (length image))))

-- no listing of an image of bytes is longer
pub listing_fits : (image : List ℕ) → T (are_bytes image) → length (listing_of image) ≤ longest
unfolding listing_of
listing_fits image t =
    by_test (λ (l : List ℕ). length l ≤ longest) (is_done (open_of image).answer)
    (state_listing (open_of image).log (open_of image).log.state) bad_image
    (λ e. (opened-fits image t).short)
    (λ e. omega arith)
