use Rattle.std.proofs.Common.{◌≡◌, map}
use Rattle.ttp_model.specs.Network.{indices}
use Rattle.ttp_model.specs.Lists.{is_set}
use Rattle.instance_variants.specs.Only.{message_of}
use Rattle.instance_variants.proofs.kept.only.messages.Given as goal

abbrev pub invariant-loop-m : goal.invariant-loop-m
invariant-loop-m l = l.all.items ≡ map (message_of l.instance l.constraints) (indices (is_set l.constraints.messages) l.m)
