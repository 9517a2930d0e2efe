-- A process starts, by its own clock, once what it reads has left the bus.
use Rattle.std.proofs.Common.{◌≡◌, ℕ, slice_index, arith}
use Rattle.std.proofs.lemmas.Grind.{common_steps}
use Rattle.ttp_model.specs.declared.plan.Plan.{Plan}
use Rattle.ttp_model.specs.Instance.{Instance, message_at, node_of, source_of}
use Rattle.ttp_model.specs.Rules.{HasTrail}
use Rattle.ttp_model.specs.Plans.{HasArrived, IsValid}
use Rattle.guardian_windows.specs.Clocks.{NodeClock}
use Rattle.plan_cycles.specs.Repeating.{StartBehindFrames}

pub behind_frames : (i : Instance) (plan : Plan) (period : ℕ) → HasTrail i → IsValid i plan → StartBehindFrames period i plan
behind_frames i plan period trail v reading c m q close inside receives started =
    let is : slice_index (message_at i m).receivers receives.0 ≡ q = grind (arith, common_steps, receives.2) in
    let arrived : HasArrived i plan m q = rw (← is) (v.arrived m inside receives.0 receives.1) in
    omega (arith, arrived, started, trail, close (NodeClock (node_of i q)) (NodeClock (source_of i m)))
