use Rattle.std.proofs.Common.{arith}
use Rattle.instance_variants.proofs.CutPlans.{end_by_of_cut, valid_of_cut}
use Rattle.instance_variants.proofs.CutEnds.{last_by_each}
use Rattle.plan_questions.proofs.limits.end_cut.own_end.Goals as goal

pub last_end-requires-clause-starts : goal.last_end-requires-clause-starts
last_end-requires-clause-starts c = (valid_of_cut c.args.instance.now c.args.processes.now c.args.d c.args.plan.now c.requires.valid).lengths.starts

pub overflow_cast-result : goal.overflow_cast-result
overflow_cast-result c =
    let i = c.args.instance.now in
    let ps = c.args.processes.now in
    let by = last_by_each i ps c.args.plan.now c.args.d (end_by_of_cut i ps c.args.d c.args.plan.now c.requires.there c.requires.valid) in
    omega (arith, c.last_end.ensures.value, by, c.ranges.d.fits)
