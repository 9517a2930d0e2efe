use Rattle.std.proofs.Common.{IsTrue, ◌↔◌, List, ℕ, subst, ◌∙◌}
use Rattle.search_trees.specs.Order.{IsWanted}
use Rattle.search_trees.proofs.names.is_in_place.Goals as goal

pub returns : goal.returns
returns c =
    subst (λ (name : List ℕ). IsTrue c.is_wanted.result ↔ IsWanted c.args.pieces.now name) (c.as_slice.ensures.value ∙ c.in_ok-name.ensures) c.is_wanted.ensures
