use Rattle.plan_format.proofs.WholeText.{found_by, only_by}
use Rattle.plan_format.proofs.reading.read.Goals as goal

pub returns-clause-found : goal.returns-clause-found
returns-clause-found c = found_by c.args.instance.now c.args.text.now c.plan_of.result c.plan_of.ensures.exact

pub returns-clause-only : goal.returns-clause-only
returns-clause-only c =
    only_by c.args.instance.now c.args.text.now c.plan_of.result c.plan_of.ensures.instance c.plan_of.ensures.exact
