use Rattle.std.proofs.Common.{◌≡◌, ◌-◌, take, sum_by}
use Rattle.ttp_model.specs.Slots.{slot_duration}
use Rattle.rates_model.specs.Cycles.{bus_for}
use Rattle.rates_model.proofs.finer.rest_of.Given as goal

abbrev pub invariant-loop-node : goal.invariant-loop-node
invariant-loop-node l = l.rest ≡ l.round - sum_by (λ n. slot_duration (bus_for l.c 0) n.capacity) (take l.node-index l.nodes)
