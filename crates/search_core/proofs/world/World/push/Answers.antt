use Rattle.std.proofs.Common.{arith}
use Rattle.std.proofs.lemmas.Result.{err_from_is_err_and}
use Rattle.search_core.proofs.Turned.{pushed_on, push_refused}
use Rattle.search_core.specs.contracts.world.World.{the_view}
use Rattle.search_core.proofs.world.World.push.Goals as goal

pub returns : goal.returns
returns c =
    rw (← c.self.view_is) (pushed_on (the_view c.self.inside) c.args.worker c.index_mut.result.now c.push.new.self (omega arith)
    c.index_mut.ensures.value c.in_ok-push.ensures.done)

pub returns-in_err-push : goal.returns-in_err-push
returns-in_err-push c =
    let p = err_from_is_err_and c.from_residual.result c.from_residual.ensures.1 in
    rw (p.1, p.2, ← c.self.view_is) (push_refused (the_view c.self.inside) c.args.worker c.index_mut.result.now c.push.new.self
    c.in_err-push.field-0.0 (omega arith) c.index_mut.ensures.value c.in_err-push.ensures.same c.in_err-push.ensures.refused)
