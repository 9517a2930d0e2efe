use Rattle.step_logs.proofs.KeptLogs.{undone_of}
use Rattle.step_logs.proofs.propagator.Propagator.undo.Goals as goal

pub invariant_of-self-2 : goal.invariant_of-self-2
invariant_of-self-2 c =
    undone_of _ c.pop.new.self.items c.in-Some.before c.into_parts-decisions.result.0.items c.into_parts-decisions.result.1 c.replace-room.new.dest c.self.invariant c.in-Some.ensures.items c.into_parts-decisions.ensures c.replace-room.ensures.after
