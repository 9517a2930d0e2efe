use Rattle.std.proofs.Common.{◌≡◌, ◌<◌, All, length, map, take}
use Rattle.rates_model.specs.Rates.{node_of}
use Rattle.endless_schedules.specs.Stores.{each_once}
use Rattle.endless_schedules.proofs.stores.receiving_nodes.Given as goal

abbrev pub invariant-loop-receiver : goal.invariant-loop-receiver
invariant-loop-receiver l = (l.nodes.items ≡ each_once (map (node_of l.rates) (take l.receiver-index l.receivers))) × All (λ n. n < length l.rates.nodes) l.nodes.items
