use Rattle.std.proofs.Common.{arith}
use Rattle.std.proofs.lemmas.Result.{err_from_is_err_and}
use Rattle.search_core.proofs.Turned.{popped, pop_refused}
use Rattle.search_core.specs.contracts.world.World.{the_view}
use Rattle.search_core.proofs.world.World.pop.Goals as goal

pub returns : goal.returns
returns c =
    rw (← c.self.view_is) (popped (the_view c.self.inside) c.args.worker c.index_mut.result.now c.pop.new.self c.in_ok-name.name (omega arith)
    c.index_mut.ensures.value c.in_ok-name.ensures.done)

pub returns-in_err-name : goal.returns-in_err-name
returns-in_err-name c =
    let p = err_from_is_err_and c.from_residual.result c.from_residual.ensures.1 in
    rw (p.1, p.2, ← c.self.view_is) (pop_refused (the_view c.self.inside) c.args.worker c.index_mut.result.now c.pop.new.self c.in_err-name.field-0.0
    (omega arith) c.index_mut.ensures.value c.in_err-name.ensures.same c.in_err-name.ensures.refused)
