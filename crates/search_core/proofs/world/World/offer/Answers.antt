use Rattle.std.proofs.Common.{arith}
use Rattle.std.proofs.lemmas.Result.{err_from_is_err_and}
use Rattle.search_core.proofs.Turned.{offered, offer_refused}
use Rattle.search_core.specs.contracts.world.World.{the_view}
use Rattle.search_core.proofs.world.World.offer.Goals as goal

pub returns : goal.returns
returns c =
    rw (← c.self.view_is) (offered (the_view c.self.inside) c.args.worker c.index_mut.result.now c.offer.new.self c.in_ok-value.value
    c.min-self-inside.result (omega arith) c.index_mut.ensures.value c.in_ok-value.ensures.done c.min-self-inside.ensures)

pub returns-in_err-value : goal.returns-in_err-value
returns-in_err-value c =
    let p = err_from_is_err_and c.from_residual.result c.from_residual.ensures.1 in
    rw (p.1, p.2, ← c.self.view_is) (offer_refused (the_view c.self.inside) c.args.worker c.index_mut.result.now c.offer.new.self
    c.in_err-value.field-0.0 (omega arith) c.index_mut.ensures.value c.in_err-value.ensures.same c.in_err-value.ensures.memory
    c.in_err-value.ensures.refused)
