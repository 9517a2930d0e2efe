use Rattle.std.proofs.Common.{ℕ, List, [], sym, ap, ◌∙◌, subst}
use Rattle.incumbent.specs.Watch.{offers, out_count, IsOpening}
use Rattle.search_workers.specs.Searching.{IsFound}
use Rattle.planner.specs.Crew.{told}
use Rattle.planner.proofs.collecting.begun.Goals as goal

pub returns-clause-nobody : goal.returns-clause-nobody
returns-clause-nobody g c =
    let first = c.args.first in
    let crew = c.in_ok-crew.ensures in
    record {
      hands = crew.hands;
      pieces = crew.pieces;
      tasks = crew.tasks;
      opening = subst (IsOpening c.in_ok-word.word) (sym crew.watch) c.tell.ensures.opening;
      alone = ap out_count crew.watch ∙ c.tell.ensures.out ∙ c.in_ok-word.ensures.alone;
      found = subst (IsFound c.args.instance.now) (sym crew.best) c.requires;
      offered = ap offers crew.watch ∙ c.tell.ensures.offers ∙ ap (λ (l : List ℕ). told l first) c.in_ok-word.ensures.offers ∙ ap (told []) (sym crew.best);
      top = c.in_ok-word.ensures.word ∙ c.past_horizon.ensures.value;
    }
