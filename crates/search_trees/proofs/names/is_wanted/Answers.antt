use Rattle.std.proofs.Common.{◌≡◌, ◌++◌, ◌∷◌, []}
use Rattle.search_trees.proofs.Finding.{wanted_child, child_wanted}
use Rattle.search_trees.proofs.names.is_wanted.Goals as goal

pub returns-in-Some : goal.returns-in-Some
returns-in-Some c =
    let pieces = c.args.pieces.now in
    let name : c.args.name.now ≡ c.in-Some.parent.now ++ c.in-Some.last.now ∷ [] = cc c.in-Some.ensures.cases.0 in (
      λ yes. wanted_child pieces c.in-Some.parent.now c.in-Some.last.now c.args.name.now name (c.has_child.ensures.0 yes),
      λ wanted. c.has_child.ensures.1 (child_wanted pieces c.in-Some.parent.now c.in-Some.last.now c.args.name.now name wanted),
    )
