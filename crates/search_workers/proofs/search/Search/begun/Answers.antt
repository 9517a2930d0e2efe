use Rattle.search_workers.proofs.Searching.{begun}
use Rattle.search_workers.proofs.search.Search.begun.Goals as goal

pub returns-clause-begun : goal.returns-clause-begun
returns-clause-begun c = λ i aims each found. rw c.new.ensures.items (begun i aims c.args.tasks.items c.args.best each found)
