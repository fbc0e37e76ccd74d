-- What it is for a log to fit: each clause read off, the log as its records and nothing else, and what makes a log that fits.
use mathlib.Core.Path.{◌≡◌, refl, sym, ap, ap₂, ◌∙◌}
use mathlib.Core.Bool.{Bool, true, false, not, ◌&&◌, ◌||◌, false≢true}
use mathlib.Core.List.{List, [], ◌∷◌, ◌++◌}
use mathlib.Core.Logic.{◌⊎◌, inl, inr, ⊎_elim}
use Prim.Native.Nat.{ℕ, zero, suc, ◌-◌, ◌≤◌, ◌<◌}
use native.Mathlib.Omega.{arith}
use lib.Dec.{eqb, leb, ltb}
use lib.ListN.{length, take, drop, replicate, length-drop, take-append-drop}
use lib.Seq.{length-take-le, drop_at}
use borrow.Author.Tests.{eq-eqb, ne_eqb, eqb-true, eqb-false, lt-ltb, ltb-true, le-leb, leb-true, not-true}
use Rattle.basics.specs.Choice.{pick}
use Rattle.basics.specs.Lists.{all_are}
use Rattle.basics.proofs.ChoiceLaws.{both, first, second}
use Rattle.basics.proofs.ListsLaws.{all_eq}
use Rattle.codec.specs.declared.Raw.{Raw}
use Rattle.codec.specs.Slots.{no_raw}
use Rattle.records.specs.declared.State.{State}
use Rattle.records.specs.declared.State.TheVariants.{Unformatted, Failed, Active}
use Rattle.records.specs.declared.Log.{Log}
use Rattle.records.specs.Table.{limit, holds, same_key, joined, falls, absorbed}
use Rattle.records.specs.Logs.{log_of, records_of}
use Rattle.records.proofs.TableKeys.{Apart, join_apart, absorb_apart}
use Rattle.records.proofs.LogsPlaces.{places-take}
use Rattle.records.specs.Fitting.{seq_max, state_fits, is_zeros, all_zeros, keys_fit, log_fits}
use Rattle.records.proofs.LogsOwned.{Whole, AllWhole, WholeLog}

-- ---- the state
-- an Active state of an image of n sectors
pub record Placed (n sector seq head next : ℕ) : Type 0 where
  pub within : sector < n
  pub low : 1 ≤ head
  pub high : head ≤ 256
  pub later : (seq < next) ⊎ (next ≡ seq_max)

module _ (n sector seq head next count : ℕ) where
  pub state-placed : state_fits n (Active sector seq head) next count ≡ true → Placed n sector seq head next
  state-placed e =
      let a = ltb sector n in
      let b = leb 1 head && leb head 256 in
      let c = ltb seq next || eqb next seq_max in
      let heads = first b c (second a (b && c) e) in
      record {
        within = ltb-true sector n (first a (b && c) e);
        low = leb-true 1 head (first (leb 1 head) (leb head 256) heads);
        high = leb-true head 256 (second (leb 1 head) (leb head 256) heads);
        later = go (ltb seq next) refl (second b c (second a (b && c) e));
      }
    where
      go : (t : Bool) → ltb seq next ≡ t → (t || eqb next seq_max) ≡ true → (seq < next) ⊎ (next ≡ seq_max)
      go true h e = inl (ltb-true seq next h)
      go false h e = inr (eqb-true next seq_max e)

  pub placed-state : Placed n sector seq head next → state_fits n (Active sector seq head) next count ≡ true
  placed-state p =
      both (lt-ltb sector n p.within) (both (both (le-leb 1 head p.low) (le-leb head 256 p.high)) (later (ltb seq next) refl p.later))
    where
      later : (t : Bool) → ltb seq next ≡ t → (seq < next) ⊎ (next ≡ seq_max) → (t || eqb next seq_max) ≡ true
      later true h w = refl
      later false h w = ⊎_elim (λ l. absurd (false≢true (sym h ∙ lt-ltb seq next l))) (λ m. eq-eqb next seq_max m) w

-- ---- the keys
-- no tag is FF
unfoldable pub Tagged : List Raw → Type 0
Tagged [] = Unit {0}
Tagged (r ∷ rs) = (r.tag ≡ 0xFF → ⊥) × Tagged rs

module _ (r : Raw) (rs : List Raw) where
  keys_tail : keys_fit (r ∷ rs) ≡ true → (not (holds r.tag r.id rs) && keys_fit rs) ≡ true
  unfolding keys_fit
  keys_tail e = second (not (eqb r.tag 0xFF)) (not (holds r.tag r.id rs) && keys_fit rs) e

  keys_rest : keys_fit (r ∷ rs) ≡ true → keys_fit rs ≡ true
  keys_rest e = second (not (holds r.tag r.id rs)) (keys_fit rs) (keys_tail e)

pub keys_apart : (t : List Raw) → keys_fit t ≡ true → Apart t
unfolding Apart
keys_apart [] e = tt
keys_apart (r ∷ rs) e =
    (not-true (holds r.tag r.id rs) (first (not (holds r.tag r.id rs)) (keys_fit rs) (keys_tail r rs e)), keys_apart rs (keys_rest r rs e))

pub keys_tagged : (t : List Raw) → keys_fit t ≡ true → Tagged t
unfolding Tagged keys_fit
keys_tagged [] e = tt
keys_tagged (r ∷ rs) e =
    let whole = not (holds r.tag r.id rs) && keys_fit rs in
    (eqb-false r.tag 0xFF (not-true (eqb r.tag 0xFF) (first (not (eqb r.tag 0xFF)) whole e)), keys_tagged rs (keys_rest r rs e))

pub keys-fit : (t : List Raw) → Apart t → Tagged t → keys_fit t ≡ true
unfolding Apart Tagged keys_fit
keys-fit [] a g = refl
keys-fit (r ∷ rs) a g = both (ap not (ne_eqb r.tag 0xFF g.0)) (both (ap not a.0) (keys-fit rs a.1 g.1))

module _ (r : Raw) (tagged : r.tag ≡ 0xFF → ⊥) where
  join_tagged : (t : List Raw) → Tagged t → Tagged (joined r t)
  unfolding Tagged joined
  join_tagged [] g = (tagged, tt)
  join_tagged (e ∷ es) g = go (join_tagged es g.1) (same_key e r)
    where
      go : Tagged (joined r es) → (b : Bool) → Tagged (pick b (r ∷ es) (e ∷ joined r es))
      go ih true = (tagged, g.1)
      go ih false = (g.0, ih)

  absorb_tagged : (t : List Raw) → Tagged t → Tagged (absorbed r t)
  unfolding Tagged absorbed
  absorb_tagged [] g = (tagged, tt)
  absorb_tagged (e ∷ es) g = go (absorb_tagged es g.1) (same_key e r) (falls r e)
    where
      go : Tagged (absorbed r es) → (b f : Bool) → Tagged (pick b (pick f (e ∷ es) (r ∷ es)) (e ∷ absorbed r es))
      go ih true true = g
      go ih true false = (tagged, g.1)
      go ih false f = (g.0, ih)

  -- keys fit after a record joined or was absorbed
  pub join_keys : (t : List Raw) → keys_fit t ≡ true → keys_fit (joined r t) ≡ true
  join_keys t e = keys-fit (joined r t) (join_apart r t (keys_apart t e)) (join_tagged t (keys_tagged t e))

  pub absorb_keys : (t : List Raw) → keys_fit t ≡ true → keys_fit (absorbed r t) ≡ true
  absorb_keys t e = keys-fit (absorbed r t) (absorb_apart r t (keys_apart t e)) (absorb_tagged t (keys_tagged t e))

-- ---- the log, clause by clause
pub record Clauses (n : ℕ) (l : Log) : Type 0 where
  pub numbered : l.next_seq ≡ 0 → ⊥
  pub few : l.count ≤ limit
  pub stated : state_fits n l.state l.next_seq l.count ≡ true
  pub clear : all_zeros (drop l.count l.table) ≡ true
  pub keyed : keys_fit (records_of l) ≡ true

module _ (n : ℕ) (l : Log) where
  pub fits_clauses : log_fits n l ≡ true → Clauses n l
  unfolding log_fits
  fits_clauses e =
      let a = not (eqb l.next_seq 0) in
      let b = leb l.count limit in
      let c = state_fits n l.state l.next_seq l.count in
      let d = all_zeros (drop l.count l.table) in
      let k = keys_fit (records_of l) in
      let e1 = second a (b && (c && (d && k))) e in
      let e2 = second b (c && (d && k)) e1 in
      let e3 = second c (d && k) e2 in
      record {
        numbered = eqb-false l.next_seq 0 (not-true (eqb l.next_seq 0) (first a (b && (c && (d && k))) e));
        few = leb-true l.count limit (first b (c && (d && k)) e1);
        stated = first c (d && k) e2;
        clear = first d k e3;
        keyed = second d k e3;
      }

  pub clauses_fit : Clauses n l → log_fits n l ≡ true
  unfolding log_fits
  clauses_fit f =
      both (ap not (ne_eqb l.next_seq 0 f.numbered))
      (both (le-leb l.count limit f.few) (both f.stated (both f.clear f.keyed)))

  module _ (fits : log_fits n l ≡ true) where
    -- an Active log lies within the image
    pub fits-active : (sector seq head : ℕ) → l.state ≡ Active sector seq head → Placed n sector seq head l.next_seq
    fits-active sector seq head e =
        state-placed n sector seq head l.next_seq l.count
        (ap (λ (s : State). state_fits n s l.next_seq l.count) (sym e) ∙ (fits_clauses fits).stated)

    -- any other has no records
    idle : (s : State) → ((next count : ℕ) → state_fits n s next count ≡ eqb count 0) → l.state ≡ s → records_of l ≡ []
    idle s none e =
        ap (λ (count : ℕ). take count l.table)
        (eqb-true l.count 0
        (sym (none l.next_seq l.count)
        ∙ ap (λ (x : State). state_fits n x l.next_seq l.count) (sym e)
        ∙ (fits_clauses fits).stated))

    pub fits-unformatted : l.state ≡ Unformatted → records_of l ≡ []
    fits-unformatted = idle Unformatted (λ next count. refl)

    pub fits-failed : l.state ≡ Failed → records_of l ≡ []
    fits-failed = idle Failed (λ next count. refl)

-- a log that fits an image fits a larger one
pub fits-larger : (n m : ℕ) (l : Log) → n ≤ m → log_fits n l ≡ true → log_fits m l ≡ true
fits-larger n m l h e =
    let f = fits_clauses n l e in
    clauses_fit m l (record { numbered = f.numbered; few = f.few; stated = larger l.state f.stated; clear = f.clear; keyed = f.keyed })
  where
    larger : (s : State) → state_fits n s l.next_seq l.count ≡ true → state_fits m s l.next_seq l.count ≡ true
    larger Unformatted e = e
    larger Failed e = e
    larger (Active sector seq head) e =
        let p = state-placed n sector seq head l.next_seq l.count e in
        placed-state m sector seq head l.next_seq l.count
        (record { within = omega (arith, p.within); low = p.low; high = p.high; later = p.later })

-- ---- a log that fits is its records and nothing else
pub whole_take : (n : ℕ) (t : List Raw) → AllWhole t → AllWhole (take n t)
unfolding AllWhole
whole_take zero t w = tt
whole_take (suc n) [] w = tt
whole_take (suc n) (r ∷ rs) w = (w.0, whole_take n rs w.1)

whole_drop : (n : ℕ) (t : List Raw) → AllWhole t → AllWhole (drop n t)
unfolding AllWhole
whole_drop zero t w = w
whole_drop (suc n) [] w = tt
whole_drop (suc n) (r ∷ rs) w = whole_drop n rs w.1

zeros-none : (r : Raw) → Whole r → is_zeros r ≡ true → r ≡ no_raw
zeros-none r w e =
    let tag = eqb-true r.tag 0 (first (eqb r.tag 0) (eqb r.id 0 && all_are 0 r.body) e) in
    let rest = second (eqb r.tag 0) (eqb r.id 0 && all_are 0 r.body) e in
    let id = eqb-true r.id 0 (first (eqb r.id 0) (all_are 0 r.body) rest) in
    let body = all_eq 0 r.body (second (eqb r.id 0) (all_are 0 r.body) rest) ∙ ap (λ (n : ℕ). replicate n 0) w.ten in
    λ i. record { tag = tag i; id = id i; body = body i }

zeros-all : (t : List Raw) → AllWhole t → all_zeros t ≡ true → t ≡ replicate (length t) no_raw
unfolding AllWhole all_zeros
zeros-all [] w e = refl
zeros-all (r ∷ rs) w e =
    ap₂ (λ (x : Raw) (xs : List Raw). x ∷ xs) (zeros-none r w.0 (first (is_zeros r) (all_zeros rs) e))
    (zeros-all rs w.1 (second (is_zeros r) (all_zeros rs) e))

module _ (l : Log) (w : WholeLog l) where
  pub records_whole : AllWhole (records_of l)
  records_whole = whole_take l.count l.table w.whole

  module _ (n : ℕ) (fits : log_fits n l ≡ true) where
    pub records_length : length (records_of l) ≡ l.count
    records_length = length-take-le l.count l.table (omega (arith, w.size, (fits_clauses n l fits).few))

    pub log_is : l ≡ log_of l.state l.next_seq (records_of l)
    log_is =
        let behind = drop l.count l.table in
        let free : length behind ≡ limit - length (records_of l) = length-drop l.count l.table ∙ omega (arith, w.size, records_length) in
        let zeros = zeros-all behind (whole_drop l.count l.table w.whole) (fits_clauses n l fits).clear in
        let table =
        sym (take-append-drop l.count l.table)
        ∙ ap (λ (x : List Raw). records_of l ++ x) (zeros ∙ ap (λ (k : ℕ). replicate k no_raw) free) in
        λ i. record { state = l.state; next_seq = l.next_seq; count = sym records_length i; table = table i }

-- ---- what makes a log that fits
replicate-zeros : (n : ℕ) → all_zeros (replicate n no_raw) ≡ true
unfolding all_zeros all_are
replicate-zeros zero = refl
replicate-zeros (suc n) = replicate-zeros n

pub log-fits : (n : ℕ) (state : State) (next : ℕ) (t : List Raw) → (next ≡ 0 → ⊥) → length t ≤ limit
    → state_fits n state next (length t) ≡ true → keys_fit t ≡ true
    → log_fits n (log_of state next t) ≡ true
log-fits n state next t numbered few stated keyed =
    clauses_fit n (log_of state next t) (record {
      numbered = numbered;
      few = few;
      stated = stated;
      clear = ap all_zeros (drop_at t (replicate (limit - length t) no_raw) (length t) refl) ∙ replicate-zeros (limit - length t);
      keyed = ap keys_fit (places-take t) ∙ keyed;
    })
