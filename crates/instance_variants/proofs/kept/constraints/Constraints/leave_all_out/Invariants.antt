use Rattle.std.proofs.Common.{◌≡◌, drop}
use Rattle.instance_variants.specs.Constraints.{without_all}
use Rattle.instance_variants.proofs.kept.constraints.Constraints.leave_all_out.Given as goal

abbrev pub invariant-loop-constraint : goal.invariant-loop-constraint
invariant-loop-constraint l = without_all l.self (drop l.constraint-index l.constraints) ≡ without_all l.fn.self l.constraints
