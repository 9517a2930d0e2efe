use Rattle.std.proofs.Common.{◌≡◌, ◌+◌, length}
use Rattle.std.specs.Prelude.{All}
use Rattle.incumbent.specs.Watch.{offers, out_count, IsOpening}
use Rattle.planner.specs.Crew.{budget_of, hands_of, IsJob}
use Rattle.planner.proofs.collecting.deal_all.Given as goal

abbrev pub invariant-loop-hand : goal.invariant-loop-hand
invariant-loop-hand g l = record {
  hands : hands_of l.jobs.items ≡ l.yielded;
  jobs : All (IsJob l.word) l.jobs.items;
  dealt : budget_of l.jobs.items + l.left ≡ l.budget;
  out : out_count l.opening ≡ out_count l.initial.opening + length l.jobs.items;
  opens : IsOpening l.word l.opening;
  same : offers l.opening ≡ offers l.initial.opening;
}
