-- The steps of the first anchor: when a put_anchor is one, and what its format asks.
use Rattle.std.specs.Prelude.{◌≡◌, Bool, false, ℕ, ◌<◌}
use Rattle.ids.specs.declared.Anchor.{Anchor}
use Rattle.records.specs.declared.State.{State}
use Rattle.records.specs.declared.State.TheVariants.{Unformatted, Failed, Active}
use Rattle.records.specs.declared.Log.{Log}
use Rattle.sectors.specs.declared.Used.{Used}
use Rattle.decisions.specs.Ready.{FitToWrite}
use Rattle.counter_log.specs.Calls.{is_first}

-- the first anchor of a log that was never formatted
abbrev pub opens_log : State → Anchor → Bool
opens_log Unformatted a = is_first a
opens_log Failed a = false
opens_log (Active sector seq head) a = false

-- a log that was never formatted, on an image, with nothing used yet
pub record FitForFirst (len n : ℕ) (log : Log) (used : Used) : Type 0 where
  pub fit : FitToWrite len n log used
  pub blank : log.state ≡ Unformatted
  pub some : 0 < n
  pub programmed : used.programmed ≡ 0
  pub erased : used.erased ≡ 0
