use Rattle.std.proofs.Common.{arith}
use Rattle.search_workers.proofs.Goals.{goal_above}
use Rattle.planner.proofs.aiming.aims_of.Goals as goal

pub returns-clause-aims : goal.returns-clause-aims
returns-clause-aims c = record {
  path = λ bound seen path small.
      omega (
        arith,
        c.in_ok-floor.ensures bound path,
        goal_above c.args.instance.now (record { gap = c.args.gap; floor = c.in_ok-floor.floor }) seen,
        small,
      );
}
