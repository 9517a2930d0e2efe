use Rattle.std.proofs.Common.{◌≡◌, take}
use Rattle.certificate_reasons.specs.Sizes.{told_steps}
use Rattle.certificate_reasons.proofs.sizes.steps_in.Given as goal

abbrev pub invariant-loop-node : goal.invariant-loop-node
invariant-loop-node l = l.count ≡ told_steps (take l.node-index l.nodes)
