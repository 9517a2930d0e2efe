use Rattle.std.proofs.lemmas.Result.{err_from_is_err_and}
use Rattle.search_core.proofs.worker.Worker.rest.Goals as goal

pub returns-in_err-name-clause-refused : goal.returns-in_err-name-clause-refused
returns-in_err-name-clause-refused c =
    let p = err_from_is_err_and c.from_residual.result c.from_residual.ensures.1 in
    rw (p.1, p.2, ← c.self.view_is) c.in_err-name.ensures
