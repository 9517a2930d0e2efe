use Rattle.plan_questions.proofs.LateCuts.{late_apart, late_cuts, late_exact, late_unknown, never}
use Rattle.plan_questions.proofs.late.least.least_lateness.Goals as goal

pub least_number-requires-clause-cutting : goal.least_number-requires-clause-cutting
least_number-requires-clause-cutting g c = λ κs alive. late_cuts c.args.instance.now c.nodes-nodes.ensures.instance c.requires

pub returns-in-Exact : goal.returns-in-Exact
returns-in-Exact g c = late_exact c.args.instance.now c.args.asking.now.options c.in-Exact.number c.in-Exact.plan c.in-Exact.below (rw c.in-Exact.is at c.in_ok-least.ensures)

pub returns-in-Apart : goal.returns-in-Apart
returns-in-Apart g c =
    late_apart c.args.instance.now c.args.asking.now.options c.in-Apart.low c.in-Apart.high c.in-Apart.plan c.in-Apart.cert (rw c.in-Apart.is at c.in_ok-least.ensures)

pub returns-in-Open : goal.returns-in-Open
returns-in-Open g c =
    late_unknown c.args.instance.now c.args.asking.now.options c.in-Open.cert c.nodes-nodes.ensures.instance c.requires (rw c.in-Open.is at c.in_ok-least.ensures)

pub returns : goal.returns
returns g c = never c.args.instance.now c.args.asking.now.options c.in-Never.cert (rw c.in-Never.is at c.in_ok-least.ensures)
