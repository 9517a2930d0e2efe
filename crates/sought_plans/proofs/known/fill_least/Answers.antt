use Rattle.sought_plans.proofs.CopiedLists.{copied_more, copied}
use Rattle.sought_plans.proofs.known.fill_least.Goals as goal

pub loop-m-preserved : goal.loop-m-preserved
loop-m-preserved c =
    copied_more c.args.choice.now.lo c.loop-m.m c.args.messages c.lo.result c.loop-m.rounds.items c.push.new.self.items c.requires c.loop-m-test.true c.lo.ensures
    c.loop-m.invariant c.in_ok-push.ensures.items

pub returns : goal.returns
returns c = copied c.args.choice.now.lo c.loop-m.m c.args.messages c.loop-m.rounds.items c.requires c.loop-m-test.false c.loop-m.invariant
