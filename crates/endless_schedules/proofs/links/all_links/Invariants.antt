use Rattle.std.proofs.Common.{◌≡◌, ◌≤◌, length, take}
use Rattle.std.specs.List.{flat_map}
use Rattle.ttp_model.specs.Limits.{most_links}
use Rattle.endless_schedules.specs.Unrolled.{links_of}
use Rattle.endless_schedules.proofs.links.all_links.Given as goal

abbrev pub invariant-loop-l : goal.invariant-loop-l
invariant-loop-l l = (l.links.items ≡ flat_map (links_of l.rates) (take l.l l.rates.links)) × (length l.links.items ≤ most_links)
