use Rattle.std.proofs.Common.{sym, subst}
use Rattle.std.proofs.lemmas.Result.{IfOk-weaker}
use Rattle.search_trees.specs.Gathering.{IsGathered}
use Rattle.search_trees.proofs.Sound.{gathered_whole}
use Rattle.search_trees.proofs.gathering.gather_whole.Goals as goal

pub certified-requires : goal.certified-requires
certified-requires c =
    let answered = gathered_whole c.args.low c.args.pieces.items c.sort_by_name.new.pieces.items c.requires.shallow c.requires.names c.requires.goals
    c.sort_by_name.ensures.same c.sort_by_name.ensures.sorted in
    answered.is_tree

pub returns-clause-ok : goal.returns-clause-ok
returns-clause-ok c =
    let answered = gathered_whole c.args.low c.args.pieces.items c.sort_by_name.new.pieces.items c.requires.shallow c.requires.names c.requires.goals
    c.sort_by_name.ensures.same c.sort_by_name.ensures.sorted in
    IfOk-weaker c.certified.result _ (IsGathered c.args.low c.args.pieces.items)
    (λ cert e. subst (IsGathered c.args.low c.args.pieces.items) (sym e) answered.answer) c.certified.ensures.ok
