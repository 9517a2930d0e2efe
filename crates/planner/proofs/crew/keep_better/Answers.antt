use Rattle.std.proofs.Common.{Option, sym, subst}
use Rattle.search_workers.specs.declared.found.FoundPlan.{FoundPlan}
use Rattle.search_workers.specs.Searching.{IsBetter, IsFound}
use Rattle.planner.proofs.crew.keep_better.Goals as goal

pub returns : goal.returns
returns c = λ i w a b.
    let was = c.replace.ensures.value in
    subst (λ (x : Option FoundPlan). IsBetter i x c.args.other c.better.result) was (c.better.ensures i w (subst (IsFound i) (sym was) a) b)
