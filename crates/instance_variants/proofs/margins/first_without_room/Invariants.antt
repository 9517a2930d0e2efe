use Rattle.ttp_model.specs.Lists.{EachBelow}
use Rattle.instance_variants.specs.Longer.{HasRoom}
use Rattle.instance_variants.proofs.margins.first_without_room.Given as goal

abbrev pub invariant-loop-p : goal.invariant-loop-p
invariant-loop-p l = EachBelow l.p (HasRoom l.instance l.processes l.scale l.x)
