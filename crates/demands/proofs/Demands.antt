-- All the demands, with no premise but those in their statements: this file has no parameters.
use Rattle.demands.specs.Demands.{Demands}
use Rattle.demands.proofs.Demand1.{demand_1_calls, demand_1_asked, demand_1_open}
use Rattle.demands.proofs.Demand2.{demand_2}
use Rattle.demands.proofs.Demand3.{demand_3_powered, demand_3_cut}
use Rattle.demands.proofs.PulledStickSpends.{pulled-spend}
use Rattle.demands.proofs.PulledStick.{pulled-set, pulled-other, pulled_session}
use Rattle.demands.proofs.WearCalls.{call-wears}
use Rattle.demands.proofs.WearSpared.{units_to_spare}
use Rattle.demands.proofs.Figures.{healthy-writes, healthy-formats}
use Rattle.demands.proofs.LeavesLaws.{failure_leaves}

pub demands : Demands
demands = record {
  answers = demand_1_calls;
  replies = demand_1_asked;
  opens = demand_1_open;
  determined = demand_2;
  powered = demand_3_powered;
  cut = demand_3_cut;
  stick_spend = pulled-spend;
  stick_set = pulled-set;
  stick_other = pulled-other;
  stick_session = pulled_session;
  wears = call-wears;
  spare = units_to_spare;
  writes = healthy-writes;
  formats = healthy-formats;
  leaves = failure_leaves;
}
