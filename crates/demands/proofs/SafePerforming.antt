-- What comes of a decision or a format is safe, whole log and answer: the writes of before as calls hand them back.
use mathlib.Core.Path.{◌≡◌, refl, sym, ap, subst, ◌∙◌}
use mathlib.Core.Bool.{Bool, true, false}
use mathlib.Core.List.{List, []}
use mathlib.Core.Logic.{◌⊎◌, inl, inr}
use Prim.Native.Nat.{ℕ}
use lib.ListN.{length}
use Rattle.basics.specs.Choice.{pick}
use Rattle.std.specs.Prelude.{Err}
use Rattle.basics.specs.Answers.{all_done, is_done}
use Rattle.codec.specs.declared.Raw.{Raw}
use Rattle.flash.specs.Image.{sectors_in}
use Rattle.flash.specs.Run.{Flash}
use Rattle.records.specs.declared.State.{State}
use Rattle.records.specs.declared.State.TheVariants.{Unformatted, Failed, Active}
use Rattle.records.specs.declared.Log.{Log}
use Rattle.records.specs.Table.{joined}
use Rattle.records.specs.Logs.{log_of, records_of}
use Rattle.records.proofs.LogsPlaces.{places-take}
use Rattle.sectors.specs.Commits.{Written, commit_first}
use Rattle.decisions.specs.declared.Decision.{Decision}
use Rattle.decisions.specs.declared.Decision.TheVariants.{Refuse, Give, Write}
use Rattle.decisions.specs.Decisions.{writes_record, record_in}
use Rattle.decisions.specs.Outcomes.{Outcome, refused}
use Rattle.decisions.specs.Performing.{written_outcome, appended, performed, formatted}
use Rattle.demands.specs.Chance.{Unmatched}
use Rattle.demands.specs.Seen.{Seen, seen_by, seen, Table, holding, table_in, table_of}
use Rattle.demands.proofs.Tables.{Proper, Writable}
use Rattle.demands.proofs.Invariant.{Agrees, Inv, inv_of}
use Rattle.demands.proofs.Endings.{Fails, Cut}
use Rattle.demands.proofs.SafeCommits.{Wakes, Safe, commit-safe}
use Rattle.demands.proofs.SafeAppends.{append-safe}

-- ---- a call that is safe
-- nothing needs to be known
abbrev pub Always : List ℕ → Type 0
Always left = Unit {0}

-- an image that was cut wakes with what P allows, or with the table of after
pub record WakesUp (P : Seen → Type 0) (later : Table) (image : List ℕ) : Type 0 where
  pub log : Log
  pub inv : Inv image log
  pub shows : P (seen log) ⊎ (table_of log ≡ later)

-- P says what may be seen of a call that failed, C what must be known of the image of one that was cut
pub data SafeCall (n : ℕ) (C : List ℕ → Type 0) (P : Seen → Type 0) (later : Table) (o : Outcome) : Type 0 where
  lasted : o.flash.cut ≡ false → sectors_in (length o.flash.image) ≡ n → Inv o.flash.image o.log
      → ((is_done o.answer ≡ true) × (table_of o.log ≡ later)) ⊎ (Fails o.answer × P (seen o.log)) → SafeCall n C P later o
  stopped : Cut o.flash → Fails o.answer → (C o.flash.image → WakesUp P later o.flash.image) → SafeCall n C P later o

-- a log that is handed back without a write
module _ (C : List ℕ → Type 0) (P : Seen → Type 0) (o : Outcome) (on : o.flash.cut ≡ false) (i : Inv o.flash.image o.log)
    (p : P (seen o.log)) where
  pub refusal-safe : (later : Table) → Fails o.answer → SafeCall (sectors_in (length o.flash.image)) C P later o
  refusal-safe later e = lasted on refl i (inr (e, p))

  pub unwritten-safe : SafeCall (sectors_in (length o.flash.image)) C P (table_of o.log) o
  unwritten-safe = go (is_done o.answer) refl
    where
      go : (b : Bool) → is_done o.answer ≡ b → SafeCall (sectors_in (length o.flash.image)) C P (table_of o.log) o
      go true e = lasted on refl i (inl (e, refl))
      go false e = refusal-safe (table_of o.log) e

-- weaker demands
pub safe_weaker : (n : ℕ) (C D : List ℕ → Type 0) (P Q : Seen → Type 0) (later : Table) (o : Outcome) → ((l : List ℕ) → D l → C l)
    → ((z : Seen) → P z → Q z) → SafeCall n C P later o → SafeCall n D Q later o
safe_weaker n C D P Q later o c q (lasted on z i (inl d)) = lasted on z i (inl d)
safe_weaker n C D P Q later o c q (lasted on z i (inr d)) = lasted on z i (inr (d.0, q (seen o.log) d.1))
safe_weaker n C D P Q later o c q (stopped x e k) = stopped x e (λ d. go (k (c o.flash.image d)))
  where
    go : WakesUp P later o.flash.image → WakesUp Q later o.flash.image
    go u = record { log = u.log; inv = u.inv; shows = wakes u.shows }
      where
        wakes : P (seen u.log) ⊎ (table_of u.log ≡ later) → Q (seen u.log) ⊎ (table_of u.log ≡ later)
        wakes (inl a) = inl (q (seen u.log) a)
        wakes (inr a) = inr a

-- ---- writes as outcomes
pub seen_by_same : (state : State) (next : ℕ) (t : List Raw) → seen (log_of state next t) ≡ seen_by state t
seen_by_same state next t = ap (seen_by state) (places-take t)

wrote-safe : (n : ℕ) (C : List ℕ → Type 0) (P : Seen → Type 0) (old new : List Raw) (w : Written) (value : ℕ) → Safe n C P old new w
    → SafeCall n C P (holding new) (written_outcome w value new old)
wrote-safe n C P old new w value (Safe.done e c a s) =
    rw e (lasted c a.sized (inv_of n w.flash.image w.state w.next new a) (inl (e, ap table_in (seen_by_same w.state w.next new) ∙ s)))
wrote-safe n C P old new w value (Safe.failed e c a p) =
    rw e (lasted c a.sized (inv_of n w.flash.image w.state w.next old a) (inr (e, subst P (sym (seen_by_same w.state w.next old)) p)))
wrote-safe n C P old new w value (Safe.stopped e c k) = stopped c e (λ d. go (k d))
  where
    go : Wakes n P (holding new) w.flash.image → WakesUp P (holding new) w.flash.image
    go u =
        record {
          log = log_of u.state u.next u.t;
          inv = inv_of n w.flash.image u.state u.next u.t u.agrees;
          shows = shown u.shows;
        }
      where
        shown : P (seen_by u.state u.t) ⊎ (table_in (seen_by u.state u.t) ≡ holding new)
            → P (seen (log_of u.state u.next u.t)) ⊎ (table_of (log_of u.state u.next u.t) ≡ holding new)
        shown (inl a) = inl (subst P (sym (seen_by_same u.state u.next u.t)) a)
        shown (inr a) = inr (ap table_in (seen_by_same u.state u.next u.t) ∙ a)

-- ---- what comes of a decision
-- where a decision writes, it writes r, which may be written
pub record WritesRecord (d : Decision) (r : Raw) (t : List Raw) : Type 0 where
  pub rec-is : record_in d ≡ r
  pub may : Writable r t

pub writes_writable : (d : Decision) (r : Raw) (t : List Raw) → WritesRecord d r t → Writable (record_in d) t
writes_writable d r t w = subst (λ (x : Raw). Writable x t) (sym w.rec-is) w.may

-- the table that a decision leads to
abbrev pub decided_table : Decision → Log → Table
decided_table d log = pick (writes_record d) (holding (joined (record_in d) (records_of log))) (table_of log)

module _ (f : Flash) (log : Log) (on : f.cut ≡ false) (i : Inv f.image log) where
  abbrev n : ℕ
  n = sectors_in (length f.image)

  abbrev Same : Seen → Type 0
  Same z = z ≡ seen log

  appended-safe : (state : State) → log.state ≡ state → (r : Raw) (value : ℕ) → Writable r (records_of log)
      → SafeCall n (Unmatched state r) Same (holding (joined r (records_of log))) (appended state n r value log f)
  appended-safe Unformatted e r value w = refusal-safe _ Same _ on i refl _ refl
  appended-safe Failed e r value w = refusal-safe _ Same _ on i refl _ refl
  appended-safe (Active s seq head) e r value w =
      let here = subst (λ (z : State). Agrees n f.image z log.next_seq (records_of log)) e i.agrees in
      let before = ap (λ (z : State). seen_by z (records_of log)) (sym e) in
      wrote-safe n (Unmatched (Active s seq head) r) Same (records_of log) (joined r (records_of log)) _ value
      (append-safe n s seq r (records_of log) w log.next_seq head Same before f on here)

  pub performed-safe : (d : Decision) (r : Raw) → (writes_record d ≡ true → WritesRecord d r (records_of log))
      → SafeCall n (Unmatched log.state r) Same (decided_table d log) (performed d n log f)
  unfolding performed
  performed-safe (Refuse x) r sound = unwritten-safe (Unmatched log.state r) Same (refused (Err x) log f) on i refl
  performed-safe (Give value) r sound =
      unwritten-safe (Unmatched log.state r) Same (record { answer = all_done; value = value; log = log; flash = f }) on i refl
  performed-safe (Write x value) r sound =
      subst (λ (y : Raw). SafeCall n (Unmatched log.state r) Same (holding (joined y (records_of log))) (appended log.state n y value log f))
      (sym (sound refl).rec-is) (appended-safe log.state refl r value (sound refl).may)

  -- ---- what comes of a format
  pub formatted-safe : log.state ≡ Unformatted → (t : List Raw) → Proper t → SafeCall n Always Same (holding t) (formatted t n log f)
  formatted-safe e t proper =
      let here = subst (λ (z : State). Agrees n f.image z log.next_seq (records_of log)) e i.agrees in
      let none = here.found.0 in
      let bare = subst (λ (l : List Raw). Agrees n f.image Unformatted log.next_seq l) none here in
      let before = ap (λ (z : State). seen_by z (records_of log)) (sym e) in
      subst (λ (z : State). SafeCall n Always Same (holding t) (written_outcome (commit_first n t z log.next_seq f) 0 t [])) (sym e)
      (wrote-safe n Always Same [] t (commit_first n t Unformatted log.next_seq f) 0
      (commit-safe n n Always Same Unformatted refl [] t proper before n 0 _ log.next_seq f here.found.1 on refl bare))
