-- Demand 2: "Every public function has a contract that determines its answer, log, plan, counts and each image byte .. uniqueness is proved".
-- A contract that is a plain equation determines its result by itself; the other shapes of contract stand here, one by one.
use Rattle.std.specs.Prelude.{◌≡◌, Bool, List, ℕ, ◌<◌, ◌^◌, T}
use Rattle.std.proofs.Math.Pow.{are_bytes}
use Rattle.crc.specs.Register.{crc32_of}
use Rattle.crc.specs.Ieee.{IsCheck, message, bits}
use Rattle.flash.specs.declared.Plan.{Plan}
use Rattle.flash.specs.Run.{Stepped}
use Rattle.records.specs.declared.Log.{Log}
use Rattle.sectors.specs.declared.Step.{Step}
use Rattle.sectors.specs.declared.Wrote.{Wrote}
use Rattle.sectors.specs.Commits.{Written}
use Rattle.sectors.specs.Shown.{ShowsStep, ShowsWrote}
use Rattle.decisions.specs.declared.outcomes.Done.{Done}
use Rattle.decisions.specs.Outcomes.{Outcome, ShowsDone}
use Rattle.text.specs.Text.{Puts}
use Rattle.host.specs.declared.requests.Request.{Request}
use Rattle.host.specs.declared.turns.InTurn.{InTurn}
use Rattle.host.specs.Lent.{ShowsDoneLent}
use Rattle.host.specs.Turns.{InTurnOf}

-- at most one result meets the promise
abbrev pub Determines : {A : Type 0} → (A → Type 0) → Type 0
Determines {A} promise = (x y : A) → promise x → promise y → x ≡ y

pub record Demand2 : Type 0 where
  -- the calls that can write: the answer struct, and the image
  pub calls : (o : Outcome) → Determines (λ (x : Done × List ℕ). ShowsDone o x.0 x.1)
  -- a request on a lent plan: and what lies where the plan was
  pub lent-calls : (o : Outcome) → Determines (λ (x : Done × List ℕ × Plan). ShowsDoneLent o x.0 x.1 x.2)
  -- two requests in turn, as a PIN attempt is: both answer structs, and the image
  pub turns : (first second : Request) (image : List ℕ) (log : Log) (plan : Plan)
      → Determines (λ (x : InTurn × List ℕ). InTurnOf first second image log plan x.0 x.1)
  -- the steps of writing, whose contracts hold for any cut
  pub steps : (o : Bool → Stepped) → Determines (λ (x : Step × List ℕ). (cut : Bool) → ShowsStep (o cut) x.0 x.1)
  pub writes : (o : Bool → Written) → Determines (λ (x : Wrote × List ℕ). (cut : Bool) → ShowsWrote (o cut) x.0 x.1)
  -- the listing, and any text put into a buffer: the buffer, and the place behind the text
  pub puts : (before : List ℕ) (at : ℕ) (text : List ℕ) → Determines (λ (x : List ℕ × ℕ). Puts before at text x.0 x.1)
  -- the checksum in the words of the standard: a number of 32 bits
  pub checksums : (bytes : List ℕ) → Determines (λ (r : ℕ). (r < 2 ^ 32) × IsCheck (message bytes) (bits 32 r))
  -- "the checksum is proved against the CRC-32 of IEEE 802.3"
  pub checked : (bytes : List ℕ) → T (are_bytes bytes) → IsCheck (message bytes) (bits 32 (crc32_of bytes))
