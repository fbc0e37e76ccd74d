-- `tries::spends::spend` meets its contract.
use mathlib.Core.Bool.{Bool}
use Rattle.std.proofs.Common.{rules}
use Rattle.std.specs.Prelude.{Option}
use Rattle.codec.specs.declared.Raw.{Raw}
use Rattle.records.proofs.LogsOwned.{whole-log}
use Rattle.ids.specs.Ids.{counter_tag, is_credential}
use Rattle.decisions.proofs.OutcomesCalls.{Steps, call-ready, call_meets}
use Rattle.tries.specs.Tries.{start_of, spend_decision, spend_of}
use Rattle.tries.proofs.TriesKeyed.{spend-keyed}
use Rattle.tries.proofs.spends.spend.Goals as goal
use Rattle.tries.proofs.spends.spend.Goals.{After-unused}

steps : (c : After-unused)
    → Steps c.args.image.now c.args.log c.args.plan (is_credential c.args.credential) counter_tag c.args.credential (λ (held : Option Raw) (room : Bool). spend_decision held room c.args.credential c.args.current)
    c.sectors-n.result c.unused.result c.map-decided.result
steps c =
    record {
      sure = c.is_credential-known.result;
      entry = c.enter-entry.result;
      counted = c.sectors-n.ensures;
      surely = c.is_credential-known.ensures;
      fresh = c.unused.ensures;
      entering = c.enter-entry.ensures;
      deciding = search rules;
    }

pub perform-requires : goal.perform-requires
perform-requires c =
    let a = c.args in
    call-ready (steps (goal.at.perform-requires c).After-unused) (whole-log a.log c.well_formed.1.0) (λ e _. spend-keyed (start_of e.held a.current) e.room a.credential)

pub returns : goal.returns
unfolding spend_of
returns c = call_meets (steps (goal.at.returns c).After-unused) c.perform.result c.perform.new.image c.perform.ensures
