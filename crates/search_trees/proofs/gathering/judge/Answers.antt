use Rattle.std.proofs.Common.{Bool, MatchBool, subst}
use Rattle.search_trees.specs.Gathering.{LacksName, HasStrayName, HasWantedNames, IsOwn}
use Rattle.search_trees.proofs.Counting.{once_rising}
use Rattle.search_trees.proofs.gathering.judge.Goals as goal

pub returns-then-branch-clause-err : goal.returns-then-branch-clause-err
returns-then-branch-clause-err c =
    let pieces = c.args.pieces.now in (
      λ name. once_rising pieces name c.if-has_doubled_name.ensures,
      subst (λ (b : Bool). MatchBool b (LacksName pieces) (HasWantedNames pieces)) c.if-branch.true c.in_ok-lacks_name.ensures,
    )

pub returns-then-branch-2-clause-err : goal.returns-then-branch-2-clause-err
returns-then-branch-2-clause-err c =
    let pieces = c.args.pieces.now in (
      λ name. once_rising pieces name c.if-has_doubled_name.ensures,
      subst (λ (b : Bool). MatchBool b (LacksName pieces) (HasWantedNames pieces)) c.if-branch.false c.in_ok-lacks_name.ensures,
      subst (λ (b : Bool). MatchBool b (HasStrayName pieces) (IsOwn pieces)) c.if-branch-2.true c.in_ok-has_stray_name.ensures,
    )

pub returns-then-has_low_leaf-clause-err : goal.returns-then-has_low_leaf-clause-err
returns-then-has_low_leaf-clause-err c =
    let pieces = c.args.pieces.now in (
      record {
        once = λ name. once_rising pieces name c.if-has_doubled_name.ensures;
        complete = subst (λ (b : Bool). MatchBool b (LacksName pieces) (HasWantedNames pieces)) c.if-branch.false c.in_ok-lacks_name.ensures;
        own = subst (λ (b : Bool). MatchBool b (HasStrayName pieces) (IsOwn pieces)) c.if-branch-2.false c.in_ok-has_stray_name.ensures;
      },
      c.if-has_low_leaf.ensures,
    )
