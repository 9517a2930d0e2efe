use Rattle.std.proofs.Common.{List, Err, sym, subst}
use Rattle.search_trees.specs.declared.piece.Piece.{Piece}
use Rattle.std.proofs.lemmas.Result.{MatchResult-weaker, IfOk-weaker}
use Rattle.std.proofs.lemmas.List.Sorted.{IsPermutation-sym}
use Rattle.search_trees.specs.Gathering.{IsFirstGatherFault, IsGathered}
use Rattle.search_trees.specs.Order.{IsSound}
use Rattle.search_trees.proofs.Gathered.{gathered}
use Rattle.search_trees.proofs.Moved.{first_fault_moves}
use Rattle.search_trees.proofs.Sound.{only_answer}
use Rattle.search_trees.proofs.gathering.gather.Goals as goal

pub certified-requires : goal.certified-requires
certified-requires c =
    let sorted = c.sort_by_name.new.pieces.items in
    let sound : IsSound c.args.low sorted = subst (IsSound c.args.low) c.as_slice.ensures.value c.in-Ok.ensures.ok in
    let answered = gathered c.args.low c.args.pieces.items sorted c.requires c.sort_by_name.ensures.same sound.up sound.complete sound.own sound.goals in
    answered.is_tree

pub returns-in-Ok-clause-ok : goal.returns-in-Ok-clause-ok
returns-in-Ok-clause-ok c =
    let sorted = c.sort_by_name.new.pieces.items in
    let sound : IsSound c.args.low sorted = subst (IsSound c.args.low) c.as_slice.ensures.value c.in-Ok.ensures.ok in
    let answered = gathered c.args.low c.args.pieces.items sorted c.requires c.sort_by_name.ensures.same sound.up sound.complete sound.own sound.goals in
    IfOk-weaker c.certified.result _ (IsGathered c.args.low c.args.pieces.items)
    (λ cert e. subst (IsGathered c.args.low c.args.pieces.items) (sym e) answered.answer) c.certified.ensures.ok

pub returns-in-Ok-clause-err : goal.returns-in-Ok-clause-err
returns-in-Ok-clause-err c =
    MatchResult-weaker c.certified.result c.certified.ensures.err (λ x h. h)
    (λ fault e. subst (IsFirstGatherFault c.args.low c.args.pieces.items) (sym e) tt)

pub returns-in-Err-clause-err : goal.returns-in-Err-clause-err
returns-in-Err-clause-err c =
    let sorted = c.sort_by_name.new.pieces.items in
    let fault = c.in-Err.fault in
    let told = subst (λ (xs : List Piece). IsFirstGatherFault c.args.low xs fault) c.as_slice.ensures.value c.in-Err.ensures.err in
    first_fault_moves c.args.low sorted c.args.pieces.items fault (IsPermutation-sym c.args.pieces.items sorted c.sort_by_name.ensures.same) told

pub returns-in-Ok-clause-only : goal.returns-in-Ok-clause-only
returns-in-Ok-clause-only c =
    only_answer c.args.low c.args.pieces.items c.certified.result (returns-in-Ok-clause-ok c) (returns-in-Ok-clause-err c)

pub returns-in-Err-clause-only : goal.returns-in-Err-clause-only
returns-in-Err-clause-only c =
    only_answer c.args.low c.args.pieces.items (Err c.in-Err.fault) tt (returns-in-Err-clause-err c)
