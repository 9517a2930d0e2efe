use Rattle.std.proofs.Common.{length, arith, below_more, ap, sym, ◌∙◌}
use Rattle.std.proofs.lemmas.Bool.{false≢true}
use Rattle.ttp_model.specs.Plans.{HasOwnChannel}
use Rattle.plan_check.proofs.channels.first_wrong_channel.Goals as goal

pub returns-then-not-has_own_channel : goal.returns-then-not-has_own_channel
returns-then-not-has_own_channel c = record {
  within = omega (arith, c.loop-m-test.true, ap length c.messages-m-end.ensures.value);
  fails = λ own. false≢true (sym c.if-not-has_own_channel.true ∙ c.has_own_channel.ensures.1 own);
  holds_before = c.loop-m.invariant;
}

pub loop-m-preserved : goal.loop-m-preserved
loop-m-preserved c =
    below_more (HasOwnChannel c.args.instance.now c.args.plan.now) c.loop-m.m c.loop-m.invariant
    (c.has_own_channel.ensures.0 c.if-not-has_own_channel.false)

pub returns : goal.returns
returns c = λ m inside. c.loop-m.invariant m (omega (arith, inside, c.loop-m-test.false, ap length c.messages-m-end.ensures.value))
