use Rattle.std.proofs.Common.{arith}
use Rattle.tt_choice.proofs.Open.{next_fits}
use Rattle.tt_choice.proofs.choice.Choice.sides.Goals as goal

pub overflow_add-r : goal.overflow_add-r
overflow_add-r c =
    omega (arith, next_fits c.args.instance.now c.args.self.now c.args.m c.args.r c.messages-messages.ensures.instance c.requires.of c.requires.cuts)
