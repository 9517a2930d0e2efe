use Rattle.std.proofs.Common.{sym, subst}
use Rattle.ttp_model.specs.Instance.{Instance}
use Rattle.tt_choice.specs.Branches.{root_choice}
use Rattle.tt_choice.specs.Decisions.{AreOpenDecisions}
use Rattle.branch_tree.proofs.workbench.Workbench.reach.Goals as goal

pub go_on-requires-clause-is_open : goal.go_on-requires-clause-is_open
go_on-requires-clause-is_open c =
    subst (λ (j : Instance). AreOpenDecisions j (root_choice j) c.args.decisions.now)
    (sym c.in_ok-kept.ensures.at.instance) c.requires.is_open
