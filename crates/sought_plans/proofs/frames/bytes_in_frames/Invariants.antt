use Rattle.std.proofs.Common.{◌≡◌, ◌*◌, ◌≤◌, sum_by, take}
use Rattle.ttp_model.specs.declared.limits.TheConstants.{MOST_BYTES}
use Rattle.sought_plans.specs.Premises.{bytes_copied}
use Rattle.sought_plans.proofs.frames.bytes_in_frames.Given as goal

abbrev pub invariant-loop-m : goal.invariant-loop-m
invariant-loop-m l = (l.sum ≡ sum_by (bytes_copied l.setting.instance l.setting.choice l.known l.n l.a l.b) (take l.m-index l.m-items)) × (l.sum ≤ l.m-index * (2 * MOST_BYTES))
