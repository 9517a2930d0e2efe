use Rattle.std.proofs.Common.{arith}
use Rattle.std.proofs.lemmas.Result.{err_from_is_err_and}
use Rattle.search_core.proofs.Turned.{rested, rest_refused}
use Rattle.search_core.specs.contracts.world.World.{the_view}
use Rattle.search_core.proofs.world.World.rest.Goals as goal

pub returns : goal.returns
returns c =
    rw (← c.self.view_is) (rested (the_view c.self.inside) c.args.worker c.index_mut.result.now c.rest.new.self (omega arith)
    c.index_mut.ensures.value c.in_ok-rest.ensures.done)

pub returns-in_err-rest : goal.returns-in_err-rest
returns-in_err-rest c =
    let p = err_from_is_err_and c.from_residual.result c.from_residual.ensures.1 in
    rw (p.1, p.2, ← c.self.view_is) (rest_refused (the_view c.self.inside) c.args.worker c.index_mut.result.now c.rest.new.self
    c.in_err-rest.field-0.0 (omega arith) c.index_mut.ensures.value c.in_err-rest.ensures.same c.in_err-rest.ensures.refused)
