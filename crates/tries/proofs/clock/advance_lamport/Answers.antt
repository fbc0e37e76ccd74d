-- `tries::clock::advance_lamport` meets its contract.
use mathlib.Core.Bool.{Bool, true}
use mathlib.Core.Path.{refl}
use Rattle.std.proofs.Common.{rules}
use Rattle.std.specs.Prelude.{Option}
use Rattle.codec.specs.declared.Raw.{Raw}
use Rattle.records.proofs.LogsOwned.{whole-log}
use Rattle.ids.specs.Ids.{value_tag, lamport}
use Rattle.decisions.proofs.OutcomesCalls.{Steps, call-ready, call_meets}
use Rattle.tries.specs.Tries.{seen_of, advance_decision, advance_of}
use Rattle.tries.proofs.TriesKeyed.{advance_keyed}
use Rattle.tries.proofs.clock.advance_lamport.Goals as goal
use Rattle.tries.proofs.clock.advance_lamport.Goals.{After-unused}

steps : (c : After-unused)
    → Steps c.args.image.now c.args.log c.args.plan true value_tag lamport (λ (held : Option Raw) (room : Bool). advance_decision held room c.args.seen)
    c.sectors-n.result c.unused.result c.map-decided.result
steps c =
    record {
      sure = true;
      entry = c.enter-entry.result;
      counted = c.sectors-n.ensures;
      surely = refl;
      fresh = c.unused.ensures;
      entering = c.enter-entry.ensures;
      deciding = search rules;
    }

pub perform-requires : goal.perform-requires
perform-requires c =
    let a = c.args in
    call-ready (steps (goal.at.perform-requires c).After-unused) (whole-log a.log c.well_formed.1.0) (λ e _. advance_keyed (seen_of e.held a.seen) e.room)

pub returns : goal.returns
unfolding advance_of
returns c = call_meets (steps (goal.at.returns c).After-unused) c.perform.result c.perform.new.image c.perform.ensures
