use Rattle.std.proofs.Common.{◌≤◌, length, arith}
use Rattle.ttp_model.specs.Limits.{most_capacities}
use Rattle.instance_reasons.proofs.Failing.{above, falls, is_capacity_list}
use Rattle.instance_reasons.proofs.capacities.capacity_fault.Goals as goal

pub falling-requires-clause-some : goal.falling-requires-clause-some
falling-requires-clause-some c = (falls c.args.capacities.now c.in-Some.k c.in-Some.ensures.fails).0

pub falling-requires-clause-falls : goal.falling-requires-clause-falls
falling-requires-clause-falls c = (falls c.args.capacities.now c.in-Some.k c.in-Some.ensures.fails).1

pub first_large-requires : goal.first_large-requires
first_large-requires c =
    let some : 1 ≤ length c.args.capacities.now = omega arith in
    let few : length c.args.capacities.now ≤ most_capacities = omega arith in
    λ small. c.requires (is_capacity_list c.args.capacities.now some few c.in-None.ensures small)

pub too_large-requires-clause-large : goal.too_large-requires-clause-large
too_large-requires-clause-large c = above _ _ c.first_large.ensures.fails
