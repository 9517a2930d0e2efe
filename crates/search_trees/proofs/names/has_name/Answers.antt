use Rattle.search_trees.proofs.Finding.{has_at_place}
use Rattle.search_trees.proofs.names.has_name.Goals as goal

pub returns-in-Some : goal.returns-in-Some
returns-in-Some c = has_at_place c.args.pieces.now c.args.name.now c.in-Some.field-0 c.in-Some.ensures.none c.in-Some.ensures.some
