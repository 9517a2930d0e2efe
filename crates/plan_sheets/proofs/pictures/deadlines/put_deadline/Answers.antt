use Rattle.plan_sheets.proofs.Places.{due-near}
use Rattle.plan_sheets.proofs.pictures.deadlines.put_deadline.Goals as goal

pub put_line-requires-clause-near : goal.put_line-requires-clause-near
put_line-requires-clause-near c =
    let process = c.process_at-process in
    rw c.due_line-line.ensures (due-near c.row_of-row.result process.result.now.deadline process.ensures.times.deadline)
