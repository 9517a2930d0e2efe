use Rattle.std.proofs.Common.{refl}
use Rattle.planner.proofs.replay.Replay.take.Goals as goal

pub returns-then-is_deep-clause-err : goal.returns-then-is_deep-clause-err
returns-then-is_deep-clause-err c = record {
  branch = c.in-Branch.branch;
  is = c.in-Branch.is;
  at_is = refl;
  task = c.args.task;
  deep = c.is_deep.ensures.deep c.if-is_deep.true;
}
