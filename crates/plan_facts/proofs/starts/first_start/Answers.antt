use Rattle.std.proofs.Common.{rules}
use Rattle.plan_facts.proofs.Starting.{first_start}
use Rattle.plan_facts.proofs.starts.first_start.Goals as goal

pub of-layout-requires-clause-capacities : goal.of-layout-requires-clause-capacities
of-layout-requires-clause-capacities c = rw c.as_slice-2.ensures c.requires.valid.capacities

pub returns : goal.returns
returns c = first_start c.args.instance.now c.args.plan.now c.args.p c.from-release.result c.after_messages-arrived.result c.after_others.result
    (search rules) c.after_messages-arrived.ensures c.after_others.ensures
