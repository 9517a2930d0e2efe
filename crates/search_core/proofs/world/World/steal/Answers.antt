use Rattle.std.proofs.Common.{arith, rules}
use Rattle.std.proofs.lemmas.Result.{err_from_is_err_and}
use Rattle.search_core.proofs.Turned.{stolen, steal_refused}
use Rattle.search_core.specs.contracts.world.World.{the_view}
use Rattle.search_core.proofs.world.World.steal.Goals as goal

pub returns : goal.returns
returns c =
    rw (← c.self.view_is) (stolen (the_view c.self.inside) c.args.worker c.args.other c.index_mut.result.now c.receive.new.self
    c.index_mut-2.result.now c.lose_first.new.self c.in_ok-name.name c.in_ok-name.copy
    (omega arith) (omega arith) (λ e. absurd (omega (arith, e))) c.in_ok-name.ensures.copy c.index_mut.ensures.value c.in_ok-name.ensures.done
    c.index_mut-2.ensures.value c.receive.ensures)

pub returns-in_err-name : goal.returns-in_err-name
returns-in_err-name c =
    let p = err_from_is_err_and c.from_residual.result c.from_residual.ensures.1 in
    rw (p.1, p.2, ← c.self.view_is) (steal_refused (the_view c.self.inside) c.args.worker c.args.other c.index.result.now c.index_mut.result.now
    c.lose_first.new.self c.in_err-name.field-0.0
    (omega arith) (omega arith) (λ e. absurd (omega (arith, e))) c.index.ensures (search rules)
    c.index_mut.ensures.value c.in_err-name.ensures.same c.in_err-name.ensures.refused)
