-- What a call that reads one record answers: the refusal of its tests, or what the log's state and the record that was found say.
use mathlib.Core.Path.{◌≡◌, sym, ap, ◌∙◌}
use mathlib.Core.Bool.{Bool}
use mathlib.Core.List.{List}
use Prim.Native.Nat.{ℕ}
use Rattle.std.specs.Prelude.{Option, Result, Ok, Err}
use Rattle.basics.specs.declared.Refusal.{Refusal}
use Rattle.codec.specs.declared.Raw.{Raw}
use Rattle.records.specs.declared.State.{State}
use Rattle.records.specs.declared.Log.{Log}
use Rattle.reads.specs.declared.Entry.{Entry}
use Rattle.reads.specs.Entering.{entry_of}
use Rattle.reads.specs.Reads.{held_by, record_held, read_in}
use Rattle.reads.proofs.EnteringLaws.{read-refused, read-by}

module _ {A : Type 0} (body_in : List ℕ → A) (unformatted : Result (Option Raw) Refusal) (log : Log) (known : Bool) (tag id : ℕ) where
  pub held-refused : (r : Refusal) → entry_of 16 log known tag id ≡ Err r → Err r ≡ read_in body_in (record_held unformatted log known tag id)
  unfolding record_held
  held-refused r e = ap (read_in body_in) (read-refused (held_by unformatted) Err log known tag id r e)

  pub held-in : (e : Entry) (z : State) → entry_of 16 log known tag id ≡ Ok e → log.state ≡ z
      → read_in body_in (held_by unformatted z e.held) ≡ read_in body_in (record_held unformatted log known tag id)
  unfolding record_held
  held-in e z k s =
      ap (read_in body_in)
      (ap (λ (x : State). held_by unformatted x e.held) (sym s) ∙ read-by (held_by unformatted) Err log known tag id e k)
