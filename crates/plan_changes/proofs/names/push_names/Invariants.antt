use Rattle.std.proofs.Common.{◌≡◌, ◌++◌, map, take}
use Rattle.ttp_model.specs.Names.{names_in}
use Rattle.plan_changes.proofs.names.push_names.Given as goal

abbrev pub invariant-loop-k : goal.invariant-loop-k
invariant-loop-k l = map (λ n. n.now) l.names.items ≡ map (λ n. n.now) l.initial.names.items ++ take l.k (names_in l.instance l.part)
