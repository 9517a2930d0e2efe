use Rattle.std.proofs.Common.{arith}
use Rattle.std.proofs.lemmas.Result.{err_from_is_err_and}
use Rattle.search_core.proofs.Turned.{looked, look_refused}
use Rattle.search_core.specs.contracts.world.World.{the_view}
use Rattle.search_core.proofs.world.World.look.Goals as goal

pub returns : goal.returns
returns c =
    rw (← c.self.view_is) (looked (the_view c.self.inside) c.args.worker c.index_mut.result.now c.look.new.self (omega arith)
    c.index_mut.ensures.value c.in_ok-look.ensures.done)

pub returns-in_err-look : goal.returns-in_err-look
returns-in_err-look c =
    let p = err_from_is_err_and c.from_residual.result c.from_residual.ensures.1 in
    rw (p.1, p.2, ← c.self.view_is) (look_refused (the_view c.self.inside) c.args.worker c.index_mut.result.now c.look.new.self
    c.in_err-look.field-0.0 (omega arith) c.index_mut.ensures.value c.in_err-look.ensures.same c.in_err-look.ensures.memory c.in_err-look.ensures.refused)
