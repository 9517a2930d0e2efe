use Rattle.std.proofs.Common.{List, ℕ, MatchBool, Contains, subst, ◌∙◌}
use Rattle.search_trees.specs.Pieces.{names_of}
use Rattle.search_trees.proofs.names.has_child_of.Goals as goal

pub returns : goal.returns
returns c =
    let names = names_of c.args.pieces.now in
    subst (λ (name : List ℕ). MatchBool c.has_name.result (Contains names name) (¬ Contains names name))
    (c.as_slice.ensures.value ∙ c.in_ok-name.ensures ∙ c.in_ok-child.ensures) c.has_name.ensures
