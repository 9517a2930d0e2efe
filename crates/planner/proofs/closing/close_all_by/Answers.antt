use Rattle.std.proofs.Common.{List, ◌++◌, ◌∷◌, [], sym, subst}
use Rattle.search_workers.specs.piece.Piece.{Piece}
use Rattle.planner.specs.Closing.{AreClosed}
use Rattle.planner.proofs.Ending.{closed_lower, closes_more}
use Rattle.planner.proofs.closing.close_all_by.Goals as goal

pub loop-task-preserved : goal.loop-task-preserved
loop-task-preserved c =
    let i = c.args.instance.now in
    let done = c.loop-task.yielded in
    let task = c.in-Some.task in
    subst (λ (ps : List Piece). AreClosed i (done ++ task ∷ []) c.args.top ps c.lowered-low.result) (sym c.in_ok-push.ensures.items)
    (closes_more i done task c.args.top c.loop-task.closed.items c.loop-task.low c.lowered-low.result c.in_ok-piece.piece c.loop-task.invariant (closed_lower i done task c.args.top c.loop-task.closed.items c.loop-task.low c.in_ok-piece.piece c.loop-task.invariant c.in_ok-piece.ensures) c.lowered-low.ensures)
