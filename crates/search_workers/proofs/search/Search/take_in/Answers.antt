use Rattle.std.proofs.Common.{◌++◌, List, Option, sym, subst, append_assoc}
use Rattle.search_workers.specs.Task.{Task}
use Rattle.search_workers.specs.declared.found.FoundPlan.{FoundPlan}
use Rattle.search_workers.specs.Searching.{IsBetter, IsFound, IsSearchingOf}
use Rattle.search_workers.proofs.Searching.{below}
use Rattle.search_workers.proofs.search.Search.take_in.Goals as goal

pub returns-clause-searching : goal.returns-clause-searching
returns-clause-searching c = λ i aims roots front more w searching made.
    let old = c.args.self.now in
    let others = c.args.made in
    let was = c.replace.ensures.value in
    let best : IsBetter i old.best others.best c.better.result = subst (λ (x : Option FoundPlan). IsBetter i x others.best c.better.result) was (c.better.ensures i w (subst (IsFound i) (sym was) searching.found) made.found) in
    let all = below i aims roots (front ++ old.tasks.items) more old.pieces.items others.pieces.items others.tasks.items old.best others.best c.better.result searching made best in
    rw c.in-Ok-Ok.ensures.items (rw c.in-Ok-Ok.ensures'.items
    (subst (λ (l : List Task). IsSearchingOf i aims roots (old.pieces.items ++ others.pieces.items) l c.better.result) (append_assoc front old.tasks.items others.tasks.items) all))
