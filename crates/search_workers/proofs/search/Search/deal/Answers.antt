use Rattle.std.proofs.Common.{Result, Ok, Err}
use Rattle.std.specs.Result.{OnErr}
use Rattle.std.proofs.lemmas.List.Sorted.{IsPermutation-refl}
use Rattle.search_workers.proofs.search.Search.deal.Goals as goal

-- what holds anyway holds where there is an error
anyway : {T E P : Type 0} (r : Result T E) → P → OnErr r P
anyway (Ok x) p = tt
anyway (Err e) p = p

pub returns-in_err-places-clause-stays : goal.returns-in_err-places-clause-stays
returns-in_err-places-clause-stays c = anyway c.from_residual.result (IsPermutation-refl c.args.self.now.tasks.items)
