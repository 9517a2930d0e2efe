use Rattle.std.proofs.Common.{length, arith, below_more, ap}
use Rattle.ttp_model.specs.Plans.{FitsFrame}
use Rattle.plan_check.proofs.frames.first_overfull.Goals as goal

pub returns-in-Some : goal.returns-in-Some
returns-in-Some c =
    let channel = c.in-Some.ensures in (
      record {
        within = omega (arith, c.loop-m-test.true, ap length c.messages-m-end.ensures.value);
        fails = λ fits. channel.fails (fits c.in-Some.c channel.within);
        holds_before = c.loop-m.invariant;
      },
      channel,
    )

pub loop-m-preserved : goal.loop-m-preserved
loop-m-preserved c = below_more (FitsFrame c.args.instance.now c.args.plan.now) c.loop-m.m c.loop-m.invariant c.in_default.ensures

pub returns : goal.returns
returns c = λ m inside. c.loop-m.invariant m (omega (arith, inside, c.loop-m-test.false, ap length c.messages-m-end.ensures.value))
