-- Any call with units to spare comes to what it comes to without a limit.
use Rattle.std.specs.Prelude.{Option, IfSome, Err}
use mathlib.Core.Path.{◌≡◌, refl, sym, ap, subst, ◌∙◌}
use mathlib.Core.Bool.{Bool, true, false}
use mathlib.Core.List.{List, []}
use Prim.Native.Nat.{ℕ, ◌<◌, ◌≤◌}
use native.Mathlib.Omega.{arith}
use lib.ListN.{length}
use Rattle.basics.specs.Choice.{pick}
use Rattle.basics.specs.Answers.{is_done}
use Rattle.basics.specs.declared.Refusal.TheVariants.{WriteError, NotFormatted}
use Rattle.ids.specs.declared.Anchor.{Anchor}
use Rattle.ids.specs.Ids.{anchor_tag}
use Rattle.codec.specs.declared.Raw.{Raw}
use Rattle.flash.specs.declared.Plan.{Plan}
use Rattle.flash.specs.Image.{sectors_in}
use Rattle.flash.specs.Run.{Flash}
use Rattle.records.specs.declared.State.{State}
use Rattle.records.specs.declared.State.TheVariants.{Unformatted, Failed, Active}
use Rattle.records.specs.declared.Log.{Log}
use Rattle.records.specs.Table.{joined, held_of}
use Rattle.records.specs.Logs.{records_of}
use Rattle.records.specs.Fitting.{log_fits}
use Rattle.records.proofs.FittingLaws.{fits-active}
use Rattle.sectors.specs.Commits.{Written}
use Rattle.decisions.specs.declared.Decision.{Decision}
use Rattle.decisions.specs.declared.Decision.TheVariants.{Refuse, Give, Write}
use Rattle.decisions.specs.Decisions.{when_active, anchor_decision}
use Rattle.reads.specs.Entering.{entry_answer, room_for}
use Rattle.reads.proofs.EnteringLaws.{let_in_by}
use Rattle.decisions.specs.declared.seeds.Seed.{Seed}
use Rattle.decisions.specs.Seeds.{seeds_known, seed_table}
use Rattle.decisions.specs.Outcomes.{Outcome, flash_of, refused, entered}
use Rattle.decisions.specs.Performing.{written_outcome, appended, performed, decided, formatted}
use Rattle.counter_log.specs.Calls.{is_first, anchor_call, anchored_first, anchored, put_anchor_of, format_on, format_of}
use Rattle.demands.specs.Healthy.{unlimited}
use Rattle.demands.specs.Calls.{Call, outcome_of}
use Rattle.demands.specs.Wear.{Alike, UnitsToSpare}
use Rattle.demands.proofs.WearSparing.{freed, Uncut, chosen, commit-freed, append-uncut, append-freed}
use Rattle.demands.proofs.CallsCourses.{commit_fresh}
use Rattle.demands.proofs.WearCalls.{call-wears}
use Rattle.demands.proofs.CallsShapes.{Shape, by_kind}

abbrev freed_outcome : Outcome → Outcome
freed_outcome o = record { answer = o.answer; value = o.value; log = o.log; flash = freed o.flash }

-- it is not cut, and so comes to the same without a limit
abbrev Free : (Flash → Outcome) → Flash → Type 0
Free call f = (call f).flash.cut ≡ false → call (freed f) ≡ freed_outcome (call f)

-- the sector and head of a log that fits
abbrev Inside : ℕ → State → Type 0
Inside n Unformatted = Unit {0}
Inside n Failed = Unit {0}
Inside n (Active s seq head) = (s < n) × (head ≤ 256)

-- ---- a decision
module _ (n : ℕ) (log : Log) (f : Flash) where
  appended-uncut : (z : State) → Inside n z → (r : Raw) (value : ℕ) → Uncut f (appended z n r value log f).flash
  appended-uncut Unformatted i r value = λ c. c
  appended-uncut Failed i r value = λ c. c
  appended-uncut (Active s seq head) i r value = append-uncut n s seq head log.next_seq r (joined r (records_of log)) f i.0 i.1

  appended-freed : (z : State) → Inside n z → (r : Raw) (value : ℕ) → Free (appended z n r value log) f
  appended-freed Unformatted i r value c = refl
  appended-freed Failed i r value c = refl
  appended-freed (Active s seq head) i r value c =
      ap (λ (w : Written). written_outcome w value (joined r (records_of log)) (records_of log))
      (append-freed n s seq head log.next_seq r (joined r (records_of log)) f i.0 i.1 c)

  performed-uncut : (d : Decision) → Inside n log.state → Uncut f (performed d n log f).flash
  unfolding performed
  performed-uncut (Refuse x) i = λ c. c
  performed-uncut (Give value) i = λ c. c
  performed-uncut (Write r value) i = appended-uncut log.state i r value

  performed-freed : (d : Decision) → Inside n log.state → Free (performed d n log) f
  unfolding performed
  performed-freed (Refuse x) i = λ _. refl
  performed-freed (Give value) i = λ _. refl
  performed-freed (Write r value) i = appended-freed log.state i r value

  -- ---- a format, and the first anchor
  formatted-freed : (t : List Raw) → 0 < n → Free (formatted t n log) f
  formatted-freed t some c = ap (λ (w : Written). written_outcome w 0 t []) (commit-freed n n t n 0 (Err WriteError) log.state log.next_seq f some c)

fits_inside : (n : ℕ) (log : Log) → log_fits n log ≡ true → Inside n log.state
fits_inside n log fits = go log.state refl
  where
    go : (z : State) → log.state ≡ z → Inside n z
    go Unformatted e = tt
    go Failed e = tt
    go (Active s seq head) e = let p = fits-active n log fits s seq head e in (p.within, p.high)

-- the log that a format leaves
formatted_inside : (n : ℕ) (log : Log) (f : Flash) → 0 < n → is_done (formatted [] n log f).answer ≡ true
    → Inside n (formatted [] n log f).log.state
formatted_inside n log f some d =
    let fresh = commit_fresh n n n 0 [] (Err WriteError) log.state log.next_seq f some refl d in
    subst (Inside n) (sym fresh.state-is) (fresh.within, omega arith)

module _ (new : Anchor) (n : ℕ) (log : Log) (f : Flash) (some : 0 < n) where
  first-freed : Free (λ (g : Flash). anchored_first new n (formatted [] n log g)) f
  unfolding anchored_first
  first-freed = go (formatted [] n log f) (formatted [] n log (freed f)) (formatted-freed n log f [] some) (formatted_inside n log f some)
    where
      ends : Outcome → Outcome
      ends o = pick (is_done o.answer) (anchor_call new n o.log o.flash) o

      go : (o p : Outcome) → (o.flash.cut ≡ false → p ≡ freed_outcome o) → (is_done o.answer ≡ true → Inside n o.log.state)
          → (ends o).flash.cut ≡ false → ends p ≡ freed_outcome (ends o)
      go o p same inside = by (is_done o.answer) refl
        where
          d : Decision
          d = when_active o.log.state (anchor_decision (held_of anchor_tag 0 (records_of o.log)) (room_for anchor_tag 0 (records_of o.log)) new)

          by : (b : Bool) → is_done o.answer ≡ b → (pick b (anchor_call new n o.log o.flash) o).flash.cut ≡ false
              → ends p ≡ freed_outcome (pick b (anchor_call new n o.log o.flash) o)
          by true e c =
              ap ends (same (performed-uncut n o.log o.flash d (inside e) c))
              ∙ ap (λ (b : Bool). pick b (anchor_call new n o.log (freed o.flash)) (freed_outcome o)) e
              ∙ performed-freed n o.log o.flash d (inside e) c
          by false e c = ap ends (same c) ∙ ap (λ (b : Bool). pick b (anchor_call new n o.log (freed o.flash)) (freed_outcome o)) e

  anchored-freed : (z : State) → Inside n log.state → Free (anchored z new n log) f
  anchored-freed Unformatted i =
      chosen freed_outcome (λ (o : Outcome). o.flash) (is_first new) (anchored_first new n (formatted [] n log f))
      (anchored_first new n (formatted [] n log (freed f)))
      (refused (Err NotFormatted) log f) (refused (Err NotFormatted) log (freed f)) first-freed (λ _. refl)
  anchored-freed Failed i = λ _. refl
  anchored-freed (Active s seq head) i = performed-freed n log f _ i

-- ---- every call
module _ (image : List ℕ) (log : Log) (plan : Plan) where
  abbrev n : ℕ
  n = sectors_in (length image)

  abbrev f : Flash
  f = flash_of image plan

  entered-freed : (known : Bool) (call : ℕ → Log → Flash → Outcome) → ((n ≡ 0 → ⊥) → log_fits n log ≡ true → Free (call n log) f)
      → (entered image log plan known call).flash.cut ≡ false
      → entered image log (unlimited plan) known call ≡ freed_outcome (entered image log plan known call)
  unfolding entered
  entered-freed known call free = go (is_done (entry_answer n log known)) refl
    where
      go : (b : Bool) → is_done (entry_answer n log known) ≡ b → (pick b (call n log f) (refused (entry_answer n log known) log f)).flash.cut ≡ false
          → pick b (call n log (freed f)) (refused (entry_answer n log known) log (freed f))
          ≡ freed_outcome (pick b (call n log f) (refused (entry_answer n log known) log f))
      go true e = let passed = let_in_by n log known e in free passed.0 passed.1
      go false e = λ _. refl

  keyed-freed : (known : Bool) (tag id : ℕ) (d : Option Raw → Bool → Decision) → (entered image log plan known (decided tag id d)).flash.cut ≡ false
      → entered image log (unlimited plan) known (decided tag id d) ≡ freed_outcome (entered image log plan known (decided tag id d))
  keyed-freed known tag id d =
      entered-freed known (decided tag id d)
      (λ some fits.
      performed-freed n log f (when_active log.state (d (held_of tag id (records_of log)) (room_for tag id (records_of log))))
      (fits_inside n log fits))

  format-freed : (seeds : List Seed) (count : ℕ) → (format_of image log plan seeds count).flash.cut ≡ false
      → format_of image log (unlimited plan) seeds count ≡ freed_outcome (format_of image log plan seeds count)
  unfolding format_of
  format-freed seeds count =
      entered-freed (seeds_known seeds count) (λ (n : ℕ) (l : Log) (f : Flash). format_on l.state (seed_table seeds count) n l f)
      (λ some fits. go (omega arith) log.state)
    where
      go : 0 < n → (z : State) → Free (format_on z (seed_table seeds count) n log) f
      go some Unformatted = formatted-freed n log f (seed_table seeds count) some
      go some Failed = λ _. refl
      go some (Active s seq head) = λ _. refl

  anchor-freed : (new : Anchor) → (put_anchor_of image log plan new).flash.cut ≡ false
      → put_anchor_of image log (unlimited plan) new ≡ freed_outcome (put_anchor_of image log plan new)
  unfolding put_anchor_of
  anchor-freed new =
      entered-freed true (λ (n : ℕ) (l : Log) (f : Flash). anchored l.state new n l f)
      (λ some fits. anchored-freed new n log f (omega arith) log.state (fits_inside n log fits))

  call-freed : (c : Call) → (outcome_of c image log plan).flash.cut ≡ false
      → outcome_of c image log (unlimited plan) ≡ freed_outcome (outcome_of c image log plan)
  call-freed =
      by_kind
      (λ (x : Shape).
      (x.outcome image log plan).flash.cut ≡ false
      → x.outcome image log (unlimited plan) ≡ freed_outcome (x.outcome image log plan))
      (λ typed known tag id d r k. keyed-freed known tag id d) anchor-freed format-freed

  alike : (c : Call) → IfSome plan.units (λ units. 73536 ≤ units) → Alike (outcome_of c image log (unlimited plan)) (outcome_of c image log plan)
  alike c enough =
      let same = call-freed c ((call-wears c image log plan).spare enough) in
      record {
        answer = ap (λ (o : Outcome). o.answer) same;
        value = ap (λ (o : Outcome). o.value) same;
        log = ap (λ (o : Outcome). o.log) same;
        image = ap (λ (o : Outcome). o.flash.image) same;
        programmed = ap (λ (o : Outcome). o.flash.programmed) same;
        erased = ap (λ (o : Outcome). o.flash.erased) same;
      }

pub units_to_spare : UnitsToSpare
units_to_spare c image log plan = alike image log plan c
