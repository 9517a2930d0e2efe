use Rattle.std.proofs.Common.{◌==◌, rules, tests, ℕ}
use Rattle.std.proofs.lemmas.Iterator.{YieldsList-from_slice}
use Rattle.std.proofs.lemmas.Iterator.Search.{any_from_yields_List}
use Rattle.endless_schedules.proofs.stores.has_node.Goals as goal

pub returns : goal.returns
returns c =
    any_from_yields_List (λ (n : ℕ). n == c.args.node) _ _ _ c.any.ensures.ran (YieldsList-from_slice c.args.nodes.now cc) (λ x b q k. search (rules, tests))
