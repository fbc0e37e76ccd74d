-- The pulled stick: whatever is called, refused or cut, no tries are given back, and none are lost that were not begun to be spent.
-- One call more on the log of a session first, which is a spend, a set or another; then the session.
use Rattle.codec.specs.declared.Raw.{Raw}
use Rattle.std.specs.Prelude.{Option, Some, ◌≡◌, Bool, true, false, List, [], ◌∷◌, ◌⊎◌, ℕ, ◌+◌, ◌≤◌, ◌<◌, eqb}
use Rattle.basics.specs.Choice.{pick}
use Rattle.basics.specs.Answers.{is_done}
use Rattle.ids.specs.Ids.{counter_tag}
use Rattle.ids.specs.Counters.{remaining_of}
use Rattle.bodies.specs.Bodies.{counter_in}
use Rattle.flash.specs.declared.Plan.{Plan}
use Rattle.records.specs.declared.Log.{Log}
use Rattle.records.specs.Logs.{records_of}
use Rattle.scan.specs.Opening.{open_of}
use Rattle.records.specs.Table.{held_of}
use Rattle.tries.specs.Tries.{start_of}
use Rattle.demands.specs.Calls.{Call, put, put-value, put-anchor, format, spend, set-tries, advance_lamport, Typed, NoChance}
use Rattle.demands.specs.Sessions.{World, opened, Made, outcome, played, Powered, now}

-- the log that is found after a call
abbrev pub woken : World → Made → Log
woken w m = (open_of (outcome m w).flash.image).log

-- of a call that was cut the chance match is ruled out
abbrev pub Lucky : World → Made → Type 0
Lucky w m = (outcome m w).flash.cut ≡ true → NoChance m.call w.image w.log m.plan

-- ---- a spend
-- the tries that a log holds for a credential; the caller's number where it holds no record
abbrev pub tries_in : ℕ → ℕ → Log → ℕ
tries_in credential current log = remaining_of (start_of (held_of counter_tag credential (records_of log)) current)

abbrev pub a_spend : ℕ → ℕ → Plan → Made
a_spend credential current plan = record { call = spend credential current; plan = plan }

-- the tries that are found after a spend
abbrev pub tries_woken : World → ℕ → ℕ → Plan → ℕ
tries_woken w credential current plan = tries_in credential current (woken w (a_spend credential current plan))

pub record KeepsTries (w : World) (credential current : ℕ) (plan : Plan) : Type 0 where
  -- pulled or not, the tries it had or one fewer
  pub either : Lucky w (a_spend credential current plan)
      → (tries_woken w credential current plan ≡ tries_in credential current w.log)
      ⊎ (tries_woken w credential current plan + 1 ≡ tries_in credential current w.log)
  -- a spend that answered 0 while tries were left has taken one
  pub taken : is_done (outcome (a_spend credential current plan) w).answer ≡ true → 0 < tries_in credential current w.log
      → tries_woken w credential current plan + 1 ≡ tries_in credential current w.log

-- ---- a set
-- a record is held, and by it so many tries remain
abbrev pub Remain : ℕ → Option Raw → Type 0
Remain tries held = (r : Raw) × (held ≡ Some r) × (remaining_of (counter_in r.body) ≡ tries)

-- the counter that a log holds of a credential, if any
abbrev pub counter_held : ℕ → Log → Option Raw
counter_held credential log = held_of counter_tag credential (records_of log)

abbrev pub Has : ℕ → ℕ → Log → Type 0
Has credential tries log = Remain tries (counter_held credential log)

abbrev pub a_set : ℕ → ℕ → Plan → Made
a_set credential new plan = record { call = set-tries credential new; plan = plan }

pub record KeepsSet (w : World) (credential new : ℕ) (plan : Plan) : Type 0 where
  -- pulled or not, the counter from before, none where there was none, or one by which the new number of tries remains
  pub either : Lucky w (a_set credential new plan)
      → (counter_held credential (woken w (a_set credential new plan)) ≡ counter_held credential w.log)
      ⊎ Has credential new (woken w (a_set credential new plan))
  -- the latter if it answered 0
  pub success : is_done (outcome (a_set credential new plan) w).answer ≡ true → Has credential new (woken w (a_set credential new plan))

-- ---- any other call
-- a put or a set of the credential; a format is refused where a record is held
abbrev pub sets : ℕ → Call → Bool
sets credential (put other new) = eqb other credential
sets credential (put-value id new) = false
sets credential (put-anchor new) = false
sets credential (format seeds count) = false
sets credential (spend other current) = false
sets credential (set-tries other tries) = eqb other credential
sets credential (advance_lamport latest) = false

-- the spends on the credential that a call begins, one or none
abbrev pub begun : ℕ → Call → ℕ
begun credential (put other new) = 0
begun credential (put-value id new) = 0
begun credential (put-anchor new) = 0
begun credential (format seeds count) = 0
begun credential (spend other current) = pick (eqb other credential) 1 0
begun credential (set-tries other tries) = 0
begun credential (advance_lamport latest) = 0

-- a call that neither sets the credential nor spends on it leaves its tries
abbrev pub LeavesTries : World → Made → ℕ → ℕ → Type 0
LeavesTries w m credential tries = sets credential m.call ≡ false → begun credential m.call ≡ 0 → Lucky w m → Has credential tries (woken w m)

-- ---- a session
unfoldable pub NoneSets : ℕ → List Made → Type 0
NoneSets credential [] = Unit {0}
NoneSets credential (m ∷ ms) = (sets credential m.call ≡ false) × NoneSets credential ms

unfoldable pub begun_in : ℕ → List Made → ℕ
begun_in credential [] = 0
begun_in credential (m ∷ ms) = begun credential m.call + begun_in credential ms

-- what is held after so many spends were begun
pub record Between (tries spends : ℕ) (held : Option Raw) : Type 0 where
  pub left : ℕ
  pub remain : Remain left held
  -- no tries are given back
  pub none_back : left ≤ tries
  -- none are lost that were not begun to be spent
  pub none_lost : tries ≤ left + spends

abbrev pub Finds : ℕ → ℕ → ℕ → Log → Type 0
Finds credential tries spends log = Between tries spends (counter_held credential log)

-- a session that opened a log with so many tries, while power lasts and at the call that is cut
pub record KeepsCount (image : List ℕ) (ms : List Made) (credential tries : ℕ) : Type 0 where
  pub powered : Finds credential tries (begun_in credential ms) (open_of (played ms (opened image)).image).log
  pub pulled : (m : Made) → Typed m.call → sets credential m.call ≡ false → Lucky (played ms (opened image)) m
      → Finds credential tries (begun_in credential ms + begun credential m.call) (woken (played ms (opened image)) m)

-- ---- the statements: after any session while power lasts, one call more
abbrev pub PulledSpend : Type 0
PulledSpend =
    (image : List ℕ) (ms : List Made) → Powered image ms → (credential current : ℕ) → credential < 256 → current < 256 → (plan : Plan)
    → KeepsTries (now image ms) credential current plan

abbrev pub PulledSet : Type 0
PulledSet =
    (image : List ℕ) (ms : List Made) → Powered image ms → (credential new : ℕ) → credential < 256 → new < 256 → (plan : Plan)
    → KeepsSet (now image ms) credential new plan

abbrev pub PulledOther : Type 0
PulledOther =
    (image : List ℕ) (ms : List Made) → Powered image ms → (credential tries : ℕ) → Has credential tries (now image ms).log
    → (m : Made) → Typed m.call → LeavesTries (now image ms) m credential tries

-- and the whole session, of which no call sets the credential
abbrev pub PulledSession : Type 0
PulledSession =
    (image : List ℕ) (ms : List Made) → Powered image ms → (credential tries : ℕ) → Has credential tries (open_of image).log
    → NoneSets credential ms → KeepsCount image ms credential tries
