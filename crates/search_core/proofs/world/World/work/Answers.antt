use Rattle.std.proofs.Common.{arith}
use Rattle.std.proofs.lemmas.Result.{err_from_is_err_and}
use Rattle.search_core.proofs.Turned.{worked_on, work_refused}
use Rattle.search_core.specs.contracts.world.World.{the_view}
use Rattle.search_core.proofs.world.World.work.Goals as goal

pub returns : goal.returns
returns c =
    rw (← c.self.view_is) (worked_on (the_view c.self.inside) c.args.worker c.index_mut.result.now c.work.new.self c.args.worked (omega arith)
    c.index_mut.ensures.value c.in_ok-work.ensures.done)

pub returns-in_err-work : goal.returns-in_err-work
returns-in_err-work c =
    let p = err_from_is_err_and c.from_residual.result c.from_residual.ensures.1 in
    rw (p.1, p.2, ← c.self.view_is) (work_refused (the_view c.self.inside) c.args.worker c.index_mut.result.now c.work.new.self c.args.worked
    c.in_err-work.field-0.0 (omega arith) c.index_mut.ensures.value c.in_err-work.ensures.same c.in_err-work.ensures.refused)
