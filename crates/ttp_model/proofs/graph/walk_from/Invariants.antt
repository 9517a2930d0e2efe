use Rattle.std.proofs.Common.{◌≡◌, ◌+◌, length, count_by, ◌==◌}
use Rattle.ttp_model.specs.Parts.{instance_of}
use Rattle.ttp_model.specs.Turns.{IsPath}
use Rattle.ttp_model.proofs.graph.walk_from.Given as goal

abbrev pub invariant-loop-path : goal.invariant-loop-path
invariant-loop-path l = IsPath (instance_of l.parts) l.turns l.path.items l.places.items l.at × (length l.path.items + count_by (λ t. t == 0) l.places.items ≡ length l.turns)

abbrev pub decreases-loop-path : goal.decreases-loop-path
decreases-loop-path l = count_by (λ t. t == 0) l.places.items
