use Rattle.plan_reasons.proofs.AllLate.{all_late}
use Rattle.plan_reasons.proofs.late_lines.late_reason.Goals as goal

pub processes_of-requires-clause-late : goal.processes_of-requires-clause-late
processes_of-requires-clause-late c =
    rw (c.as_slice-2.ensures.value, c.in_ok-parts.ensures.parts) (all_late c.args.instance.now c.as_slice.result.now)
