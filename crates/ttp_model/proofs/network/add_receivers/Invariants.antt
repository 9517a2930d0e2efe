use Rattle.std.proofs.Common.{◌≡◌, ◌++◌, take}
use Rattle.ttp_model.specs.Groups.{with_keys}
use Rattle.ttp_model.proofs.network.add_receivers.Given as goal

abbrev pub invariant-loop-q : goal.invariant-loop-q
invariant-loop-q l = l.pairs.items ≡ l.initial.pairs.items ++ with_keys l.m (take l.q-index l.receivers)
