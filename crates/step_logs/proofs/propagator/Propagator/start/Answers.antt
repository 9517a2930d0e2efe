use Rattle.step_logs.proofs.KeptLogs.{started_of}
use Rattle.step_logs.proofs.propagator.Propagator.start.Goals as goal

pub invariant_of-result : goal.invariant_of-result
invariant_of-result c =
    started_of c.args.instance.now c.args.goal _ _ _ c.nodes-nodes.ensures.instance c.in_ok-agenda.ensures c.new.ensures.items c.new-in-Ok.ensures.items
