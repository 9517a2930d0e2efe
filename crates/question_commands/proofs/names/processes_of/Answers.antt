use Rattle.std.proofs.Common.{arith}
use Rattle.question_commands.specs.Names.{texts_of}
use Rattle.question_commands.proofs.Naming.{count_is, first_wrong}
use Rattle.question_commands.proofs.names.processes_of.Goals as goal

pub returns-in-None : goal.returns-in-None
returns-in-None c =
    first_wrong c.args.instance.now (texts_of c.args.words.now) c.loop-k.processes.items c.loop-k.k
    (omega (arith, c.loop-k-test.true, count_is c.args.words.now)) c.loop-k.invariant.each c.loop-k.invariant.once c.in-None.ensures
