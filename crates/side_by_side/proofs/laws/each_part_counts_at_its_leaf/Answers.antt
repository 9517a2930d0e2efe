use Rattle.side_by_side.proofs.Ways.{parts_count, parts_bound}
use Rattle.side_by_side.proofs.laws.each_part_counts_at_its_leaf.Goals as goal

pub returns : goal.returns
returns c = record { leaves = parts_count; bound = parts_bound }
