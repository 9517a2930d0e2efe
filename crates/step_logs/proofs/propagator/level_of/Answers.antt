use Rattle.step_logs.proofs.KeptLogs.{begun_of}
use Rattle.step_logs.proofs.propagator.level_of.Goals as goal

pub returns-in-Ok : goal.returns-in-Ok
returns-in-Ok c =
    begun_of c.args.instance.now c.args.goal c.args.root.now c.in_ok-first.first c.new-2.result.items c.new-current.result c.reach.new.journal c.requires.is c.new-current.ensures c.in_ok-first.ensures c.new-2.ensures.items c.reach.ensures.advances c.requires.of c.in-Ok.ensures.above c.in-Ok.ensures.found
