use Rattle.std.proofs.Common.{◌≡◌, ◌++◌, map}
use Rattle.std.specs.List.{range_with_len}
use Rattle.endless_schedules.specs.Unrolled.{link_to}
use Rattle.endless_schedules.proofs.links.push_links.Given as goal

abbrev pub invariant-loop-j : goal.invariant-loop-j
invariant-loop-j l = l.list.items ≡ l.initial.list.items ++ map (link_to l.rates l.link) (range_with_len 0 l.j)
