use Rattle.std.proofs.Common.{rules}
use Rattle.std.specs.Ordering.{is_lt}
use Rattle.std.proofs.lemmas.Cmp.{nat_list_cmp_total}
use Rattle.std.proofs.lemmas.List.Sorted.{ranks_by, answers_always}
use Rattle.search_trees.specs.declared.piece.Piece.{Piece}
use Rattle.search_trees.specs.Order.{compare}
use Rattle.search_trees.proofs.names.sort_by_name.Goals as goal

pub returns-clause-sorted : goal.returns-clause-sorted
returns-clause-sorted c =
    c.sort_unstable_by.ensures.sorted (λ (x y : Piece). is_lt (compare x.name y.name)) (ranks_by nat_list_cmp_total (λ (p : Piece). p.name))
    (answers_always _ _ _ (λ f a r g k. search rules))
