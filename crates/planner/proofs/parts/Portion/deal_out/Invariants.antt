use Rattle.std.proofs.Common.{◌≡◌, ◌≤◌, ◌+◌, length, vec_len, vec_capacity}
use Rattle.planner.specs.Parts.{Deals}
use Rattle.planner.proofs.parts.Portion.deal_out.Given as goal

abbrev pub invariant-loop-dealt : goal.invariant-loop-dealt
invariant-loop-dealt l = record {
  deals : Deals l.self l.initial.tasks.items l.initial.leaves.items l.tasks.items l.leaves.items l.own.items l.aside.items l.others.items;
  count : length l.tasks.items + l._dealt ≡ length l.initial.tasks.items;
  own : vec_len l.own + vec_len l.tasks ≤ vec_capacity l.own;
  aside : vec_len l.aside + vec_len l.tasks ≤ vec_capacity l.aside;
  others : vec_len l.others + vec_len l.tasks ≤ vec_capacity l.others;
}
