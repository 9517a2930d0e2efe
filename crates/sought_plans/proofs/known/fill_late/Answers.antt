use Rattle.std.proofs.Common.{◌+◌}
use Rattle.sought_plans.proofs.CopiedLists.{mapped_more, mapped}
use Rattle.sought_plans.proofs.known.fill_late.Goals as goal

pub loop-m-preserved : goal.loop-m-preserved
loop-m-preserved c =
    mapped_more (λ r. r + 1) c.args.choice.now.hi c.loop-m.m c.args.messages c.hi.result c.loop-m.rounds.items c.push.new.self.items c.requires.all c.loop-m-test.true c.hi.ensures
    c.loop-m.invariant c.in_ok-push.ensures.items

pub returns : goal.returns
returns c = mapped (λ r. r + 1) c.args.choice.now.hi c.loop-m.m c.args.messages c.loop-m.rounds.items c.requires.all c.loop-m-test.false c.loop-m.invariant
