use Rattle.tt_choice.specs.declared.decision.Decision.TheVariants.{Before, AtMost, AtLeast, Channel}
use Rattle.used_decisions.proofs.Told.{told_as}
use Rattle.used_decisions.proofs.tables.Tables.tell.Goals as goal

pub returns-in-Before-clause-ok : goal.returns-in-Before-clause-ok
returns-in-Before-clause-ok c = λ turns are. told_as c.args.instance.now turns c.args.turn (Before c.in-Before.p c.in-Before.q) _ _ c.in-Before.is (c.tell_order.ensures turns are)

pub returns-in-AtMost-clause-ok : goal.returns-in-AtMost-clause-ok
returns-in-AtMost-clause-ok c = λ turns are. told_as c.args.instance.now turns c.args.turn (AtMost c.in-AtMost.m c.in-AtMost.round) _ _ c.in-AtMost.is (c.tell_greatest.ensures c.args.instance.now turns are)

pub returns-in-AtLeast-clause-ok : goal.returns-in-AtLeast-clause-ok
returns-in-AtLeast-clause-ok c = λ turns are. told_as c.args.instance.now turns c.args.turn (AtLeast c.in-AtLeast.m c.in-AtLeast.round) _ _ c.in-AtLeast.is (c.tell_least.ensures c.args.instance.now turns are)

pub returns-in-Channel-clause-ok : goal.returns-in-Channel-clause-ok
returns-in-Channel-clause-ok c = λ turns are. told_as c.args.instance.now turns c.args.turn (Channel c.in-Channel.m c.in-Channel.channel) _ _ c.in-Channel.is (c.tell_channel.ensures c.args.instance.now turns are)
