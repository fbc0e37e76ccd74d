-- The first anchor: what its own format leaves is an empty log that fits, and the anchor is decided on that.
use Rattle.std.specs.Prelude.{None, Result, Ok, Err, is_ok}
use mathlib.Core.Path.{◌≡◌, refl, sym, ap, ◌∙◌}
use mathlib.Core.Bool.{Bool, true, false, ◌&&◌, false≢true}
use mathlib.Core.Logic.{inl}
use mathlib.Core.List.{List, []}
use Prim.Native.Nat.{ℕ, ◌*◌, ◌≤◌, ◌<◌}
use native.Mathlib.Omega.{arith}
use lib.ListN.{length}
use Rattle.basics.specs.Choice.{pick}
use Rattle.basics.specs.Answers.{is_done}
use Rattle.basics.specs.declared.Refusal.{Refusal}
use Rattle.basics.specs.declared.Refusal.TheVariants.{NotFormatted, WriteError}
use Rattle.ids.specs.declared.Anchor.{Anchor}
use Rattle.ids.specs.Ids.{anchor_tag}
use Rattle.codec.specs.declared.Raw.{Raw}
use Rattle.flash.specs.declared.Plan.{Plan}
use Rattle.flash.specs.Image.{sectors_in}
use Rattle.flash.specs.Run.{Flash}
use Rattle.records.specs.declared.State.{State}
use Rattle.records.specs.declared.State.TheVariants.{Unformatted, Failed, Active}
use Rattle.records.specs.declared.Log.{Log}
use Rattle.records.specs.Table.{holds, held_of}
use Rattle.records.specs.Logs.{log_of, records_of}
use Rattle.records.specs.Fitting.{log_fits, keys_fit}
use Rattle.records.proofs.FittingLaws.{placed-state, log-fits}
use Rattle.sectors.specs.Commits.{Written, commit_first}
use Rattle.sectors.proofs.CommitsDone.{Committed, committed}
use Rattle.sectors.proofs.SectorsCosts.{commit-within}
use Rattle.decisions.specs.Decisions.{when_active, anchor_decision}
use Rattle.reads.specs.declared.Entry.{Entry}
use Rattle.reads.specs.Entering.{room_for, entry_of}
use Rattle.decisions.specs.Outcomes.{Outcome, flash_of, refused, entered}
use Rattle.decisions.specs.Performing.{performed, formatted}
use Rattle.decisions.proofs.OutcomesCalls.{entered-refused, entered_in}
use Rattle.counter_log.specs.Calls.{is_first, anchor_call, anchored_first, anchored, put_anchor_of}
use Rattle.counter_log.specs.FirstAnchor.{opens_log}

-- ---- an empty format
module _ (n : ℕ) (log : Log) (f : Flash) where
  abbrev made : Written
  made = commit_first n [] log.state log.next_seq f

  -- it writes headers only: sixteen bytes a sector
  pub format_cheap : n ≤ 16 → f.programmed ≡ 0 → f.erased ≡ 0 → (made.flash.programmed ≤ 16 * n) × (made.flash.erased ≤ 4096 * n)
  format_cheap few p e =
      let w = commit-within n n n 0 [] (Err WriteError) log.state log.next_seq f in
      (omega (arith, w.programmed), omega (arith, w.erased))

  module _ (some : 0 < n) (d : is_done made.answer ≡ true) where
    done : Committed n [] made
    done = committed n n n 0 [] (Err WriteError) log.state log.next_seq f some refl d

    pub format-log : (formatted [] n log f).log ≡ log_of made.state made.next []
    format-log = ap (λ (b : Bool). log_of made.state made.next (pick b [] [])) d

    pub format-fits : log_fits n (formatted [] n log f).log ≡ true
    unfolding keys_fit
    format-fits =
        let c = done in
        ap (log_fits n) format-log
        ∙ ap (λ (s : State). log_fits n (log_of s made.next [])) c.active
        ∙ log-fits n (Active c.sector c.seq 1) made.next [] (λ e. omega (arith, c.raised)) (omega arith)
        (placed-state n c.sector c.seq 1 made.next 0
        (record { within = c.within; low = omega arith; high = omega arith; later = inl (omega (arith, c.raised)) }))
        refl

    pub format-empty : records_of (formatted [] n log f).log ≡ []
    format-empty = ap records_of format-log

-- ---- then the anchor
module _ (a : Anchor) (n : ℕ) (o : Outcome) where
  pub first-stopped : is_done o.answer ≡ false → anchored_first a n o ≡ o
  unfolding anchored_first
  first-stopped e = ap (λ (b : Bool). pick b (anchor_call a n o.log o.flash) o) e

  pub first-decided : is_done o.answer ≡ true → records_of o.log ≡ []
      → anchored_first a n o ≡ performed (when_active o.log.state (anchor_decision None true a)) n o.log o.flash
  unfolding anchored_first held_of room_for holds
  first-decided e t =
      ap (λ (b : Bool). pick b (anchor_call a n o.log o.flash) o) e
      ∙ ap
      (λ (t : List Raw).
      performed (when_active o.log.state (anchor_decision (held_of anchor_tag 0 t) (room_for anchor_tag 0 t) a)) n o.log
      o.flash)
      t

-- ---- which anchors are first
pub not_first : (s : State) (a : Anchor) (n : ℕ) (log : Log) (f : Flash) → log.state ≡ s → (is_first a ≡ true → s ≡ Unformatted → ⊥)
    → anchored s a n log f ≡ anchor_call a n log f
unfolding performed
not_first Unformatted a n log f e h = go (is_first a) refl
  where
    go : (b : Bool) → is_first a ≡ b → pick b (anchored_first a n (formatted [] n log f)) (refused (Err NotFormatted) log f) ≡ anchor_call a n log f
    go true t = absurd (h t refl)
    go false t =
        sym
        (ap
        (λ (s : State).
        performed (when_active s (anchor_decision (held_of anchor_tag 0 (records_of log)) (room_for anchor_tag 0 (records_of log)) a))
        n log f)
        e)
not_first Failed a n log f e h =
    sym
    (ap
    (λ (s : State).
    performed (when_active s (anchor_decision (held_of anchor_tag 0 (records_of log)) (room_for anchor_tag 0 (records_of log)) a)) n
    log f)
    e)
not_first (Active sector seq head) a n log f e h = refl

pub first : (a : Anchor) (n : ℕ) (log : Log) (f : Flash) → is_first a ≡ true
    → anchored Unformatted a n log f ≡ anchored_first a n (formatted [] n log f)
first a n log f e = ap (λ (b : Bool). pick b (anchored_first a n (formatted [] n log f)) (refused (Err NotFormatted) log f)) e

-- ---- the call, by whether it brings the first anchor
pub opened : (s : State) (a : Anchor) → opens_log s a ≡ true → (s ≡ Unformatted) × (is_first a ≡ true)
opened Unformatted a e = (refl, e)
opened Failed a e = absurd (false≢true e)
opened (Active sector seq head) a e = absurd (false≢true e)

module _ (image : List ℕ) (log : Log) (plan : Plan) (a : Anchor) where
  abbrev call : ℕ → Log → Flash → Outcome
  call n l f = anchored l.state a n l f

  abbrev n : ℕ
  n = sectors_in (length image)

  pub as_first : (e : Entry) → entry_of n log true anchor_tag 0 ≡ Ok e → opens_log log.state a ≡ true
      → put_anchor_of image log plan a ≡ anchored_first a n (formatted [] n log (flash_of image plan))
  unfolding put_anchor_of
  as_first e is-entry o =
      let h = opened log.state a o in
      entered_in image log plan true anchor_tag 0 e is-entry call
      ∙ ap (λ (s : State). anchored s a n log (flash_of image plan)) h.0
      ∙ first a n log (flash_of image plan) h.1

  pub as_call : (x : Result Entry Refusal) → entry_of n log true anchor_tag 0 ≡ x → (is_ok x && opens_log log.state a) ≡ false
      → put_anchor_of image log plan a ≡ entered image log plan true (anchor_call a)
  unfolding put_anchor_of
  as_call (Ok e) is-entry o =
      let never : is_first a ≡ true → log.state ≡ Unformatted → ⊥ =
      λ f u. false≢true (sym o ∙ ap (λ (s : State). opens_log s a) u ∙ f) in
      entered_in image log plan true anchor_tag 0 e is-entry call
      ∙ not_first log.state a n log (flash_of image plan) refl never
      ∙ sym (entered_in image log plan true anchor_tag 0 e is-entry (anchor_call a))
  as_call (Err r) is-entry o =
      entered-refused image log plan true anchor_tag 0 call r is-entry
      ∙ sym (entered-refused image log plan true anchor_tag 0 (anchor_call a) r is-entry)
