-- What `remaining` answers, in the paper's numbers: what get says, with the counter's tries for the counter.
use mathlib.Core.Path.{◌≡◌, refl, sym, ap, ◌∙◌}
use Prim.Native.Nat.{ℕ}
use Rattle.std.specs.Prelude.{Option, Result, Ok, Err, option_map}
use Rattle.basics.specs.declared.Refusal.{Refusal}
use Rattle.basics.specs.Says.{says_map, option_says}
use Rattle.ids.specs.declared.CounterState.{CounterState}
use Rattle.ids.specs.Counters.{remaining_of}
use Rattle.records.specs.declared.Log.{Log}
use Rattle.reads.specs.Reads.{get_of}
use Rattle.reads.proofs.ReadsSays.{get-says}
use Rattle.tries.specs.Tries.{tries_left_by, tries_left_of, tries_left_says_of}

pub tries-left_says : (log : Log) (credential : ℕ) → option_says (tries_left_of log credential) ≡ tries_left_says_of log credential
tries-left_says log credential = by-counter (get_of log credential) ∙ ap (says_map remaining_of) (get-says log credential)
  where
    by-counter : (x : Result (Option CounterState) Refusal) → option_says (tries_left_by x) ≡ says_map remaining_of (option_says x)
    by-counter (Ok held) = refl
    by-counter (Err r) = refl

-- what is left, by what was got
pub left_held : (log : Log) (credential : ℕ) (held : Option CounterState) (x : Option ℕ) → get_of log credential ≡ Ok held → x ≡ option_map remaining_of held
    → Ok x ≡ tries_left_of log credential
left_held log credential held x e k = ap Ok k ∙ ap tries_left_by (sym e)

pub left_refused : (log : Log) (credential : ℕ) (r : Refusal) → get_of log credential ≡ Err r → Err r ≡ tries_left_of log credential
left_refused log credential r e = ap tries_left_by (sym e)
