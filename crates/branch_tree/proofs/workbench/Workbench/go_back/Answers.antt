use Rattle.std.proofs.Common.{◌≡◌, length, take}
use Rattle.std.proofs.lemmas.Result.{IfOk-weaker}
use Rattle.search_trees.specs.Propagator.{Propagator, IsStarted}
use Rattle.branch_tree.specs.Workbench.{IsAt}
use Rattle.branch_tree.proofs.Workbenches.{none_made, started_at}
use Rattle.branch_tree.proofs.workbench.Workbench.go_back.Goals as goal

pub returns-clause-at : goal.returns-clause-at
returns-clause-at c =
    IfOk-weaker c.start.result (IsStarted c.args.instance.now c.args.goal) (IsAt c.args.instance.now c.args.goal)
    (started_at c.args.instance.now c.args.goal) c.start.ensures

pub returns-clause-first : goal.returns-clause-first
returns-clause-first c =
    IfOk-weaker c.start.result (IsStarted c.args.instance.now c.args.goal) (λ (p : Propagator). p.decisions ≡ take (length p.decisions) c.args.decisions.now)
    (λ p started. none_made c.args.decisions.now p started.decisions) c.start.ensures
