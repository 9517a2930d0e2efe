-- Jobs and stores start, by their own clocks, once what they take has left the bus.
use Rattle.std.proofs.Common.{ℕ, ◌+◌, ◌≤◌, arith}
use Rattle.ttp_model.specs.declared.plan.Plan.{Plan}
use Rattle.rates_model.specs.Rates.{Rates, node_of}
use Rattle.endless_schedules.specs.Runs.{Store, home_of}
use Rattle.endless_schedules.specs.Sent.{sender_node}
use Rattle.endless_schedules.specs.Clocks.{StartBehindFrames, StoreBehindFrames}
use Rattle.endless_schedules.specs.Endless.{IsEndless}

module _ (rho : Rates) (plan : Plan) (trail : rho.cluster.precision ≤ rho.cluster.trail) (e : IsEndless rho plan) where
  pub starts_behind : StartBehindFrames rho plan
  starts_behind reading m q c j k close r begun =
      omega (arith, e.arrived m q c j k r, begun, trail, close (node_of rho q) (sender_node rho m))

  pub stores_behind : StoreBehindFrames rho plan
  stores_behind reading m q c j d k place close r differ there home begun =
      omega (arith, e.stored m q c j d k place r differ there home, begun, trail, close (home_of rho (Store m place)) (sender_node rho m))
