-- `counter_log::puts::put_value` meets its contract.
use mathlib.Core.Bool.{Bool}
use Rattle.std.proofs.Common.{rules}
use Rattle.std.specs.Prelude.{Option}
use Rattle.codec.specs.declared.Raw.{Raw}
use Rattle.records.proofs.LogsOwned.{whole-log}
use Rattle.ids.specs.Ids.{value_tag, is_value}
use Rattle.decisions.specs.Decisions.{value_decision}
use Rattle.decisions.proofs.DecisionsKeyed.{value-keyed}
use Rattle.decisions.proofs.OutcomesCalls.{Steps, call-ready, call_meets}
use Rattle.counter_log.specs.Calls.{put_value_of}
use Rattle.counter_log.proofs.puts.put_value.Goals as goal
use Rattle.counter_log.proofs.puts.put_value.Goals.{After-unused}

steps : (c : After-unused)
    → Steps c.args.image.now c.args.log c.args.plan (is_value c.args.id) value_tag c.args.id (λ (held : Option Raw) (room : Bool). value_decision held room c.args.id c.args.new)
    c.sectors-n.result c.unused.result c.map-decided.result
steps c =
    record {
      sure = c.is_value.result;
      entry = c.enter-entry.result;
      counted = c.sectors-n.ensures;
      surely = c.is_value.ensures;
      fresh = c.unused.ensures;
      entering = c.enter-entry.ensures;
      deciding = search rules;
    }

pub perform-requires : goal.perform-requires
perform-requires c =
    let a = c.args in
    call-ready (steps (goal.at.perform-requires c).After-unused) (whole-log a.log c.well_formed.1.0) (λ e _. value-keyed e.held e.room a.id a.new)

pub returns : goal.returns
unfolding put_value_of
returns c = call_meets (steps (goal.at.returns c).After-unused) c.perform.result c.perform.new.image c.perform.ensures
