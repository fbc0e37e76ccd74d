-- A session: any image, its opening, and any calls with any arguments, each on a plan of its own and on the log that the last one handed back.
use Rattle.std.specs.Prelude.{◌≡◌, false, List, [], ◌∷◌, ℕ, T}
use Rattle.std.proofs.Math.Pow.{are_bytes}
use Rattle.flash.specs.declared.Plan.{Plan}
use Rattle.records.specs.declared.Log.{Log}
use Rattle.scan.specs.Opening.{open_of}
use Rattle.decisions.specs.Outcomes.{Outcome}
use Rattle.demands.specs.Calls.{Call, outcome_of, Typed}

-- an image, and the log value in memory
pub record World : Type 0 where
  pub image : List ℕ
  pub log : Log

abbrev pub opened : List ℕ → World
opened image = record { image = image; log = (open_of image).log }

-- a call, and the plan of the flash while it runs
pub record Made : Type 0 where
  pub call : Call
  pub plan : Plan

abbrev pub outcome : Made → World → Outcome
outcome m w = outcome_of m.call w.image w.log m.plan

abbrev pub afterwards : Outcome → World
afterwards o = record { image = o.flash.image; log = o.log }

unfoldable pub played : List Made → World → World
played [] w = w
played (m ∷ ms) w = played ms (afterwards (outcome m w))

unfoldable pub AllTyped : List Made → Type 0
AllTyped [] = Unit {0}
AllTyped (m ∷ ms) = Typed m.call × AllTyped ms

-- "Power lasts until a program or erase of this session, counted from its opening, first stops for want of a unit"
unfoldable pub Lasts : List Made → World → Type 0
Lasts [] w = Unit {0}
Lasts (m ∷ ms) w = ((outcome m w).flash.cut ≡ false) × Lasts ms (afterwards (outcome m w))

-- "Open any image and make any calls on it .. while power lasts": the image is bytes, the arguments have their types, and no call was cut
pub record Powered (image : List ℕ) (ms : List Made) : Type 0 where
  pub bytes : T (are_bytes image)
  pub typed : AllTyped ms
  pub lasts : Lasts ms (opened image)

-- the image and log that such a session has come to
abbrev pub now : List ℕ → List Made → World
now image ms = played ms (opened image)
