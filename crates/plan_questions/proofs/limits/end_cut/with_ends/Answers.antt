use Rattle.instance_variants.proofs.CutRules.{can_end_by}
use Rattle.plan_questions.proofs.limits.end_cut.with_ends.Goals as goal

pub with_deadlines-requires : goal.with_deadlines-requires
with_deadlines-requires c = can_end_by c.args.instance.now c.args.processes.now c.args.d c.requires.there c.requires.rules
