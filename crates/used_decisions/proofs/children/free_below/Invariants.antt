use Rattle.std.proofs.Common.{◌≡◌, ◌≤◌, length, filter}
use Rattle.std.specs.List.{range_with_len}
use Rattle.used_decisions.specs.Children.{is_free}
use Rattle.used_decisions.proofs.children.free_below.Given as goal

abbrev pub invariant-loop-v : goal.invariant-loop-v
invariant-loop-v l = record {
  is : l.count ≡ length (filter (is_free l.path.turns) (range_with_len 0 l.v));
  most : l.count ≤ l.v;
}
