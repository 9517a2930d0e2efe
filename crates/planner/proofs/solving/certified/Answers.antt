use Rattle.search_workers.proofs.Whole.{whole_tree_names}
use Rattle.planner.proofs.solving.certified.Goals as goal

pub gather_whole-requires-clause-names : goal.gather_whole-requires-clause-names
gather_whole-requires-clause-names c = whole_tree_names c.args.pieces.items c.requires.whole
