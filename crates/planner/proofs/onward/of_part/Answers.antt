use Rattle.std.proofs.Common.{[], ◌∷◌}
use Rattle.search_workers.specs.Task.{root_task}
use Rattle.planner.proofs.onward.of_part.Goals as goal

pub part_worked-requires-clause-searching : goal.part_worked-requires-clause-searching
part_worked-requires-clause-searching g c κs within = (root_task ∷ [], c.requires.part.aside, c.requires.part.searching)

pub part_concluded-requires-clause-part : goal.part_concluded-requires-clause-part
part_concluded-requires-clause-part g c = record {
  aside = c.requires.part.aside;
  searching = c.in_ok-worked.ensures.searching (root_task ∷ []) c.requires.part.aside c.requires.part.searching;
  low = c.requires.part.low;
  stand = c.requires.part.stand;
}

pub returns-clause-told : goal.returns-clause-told
returns-clause-told g c = rw c.in_ok-outcome.ensures.best c.tell.ensures

pub returns-clause-called_off : goal.returns-clause-called_off
returns-clause-called_off g c = λ off. c.in_ok-worked.ensures.called_off (c.in_ok-outcome.ensures.called_off off)

pub returns-clause-no_later : goal.returns-clause-no_later
returns-clause-no_later g c = rw c.in_ok-outcome.ensures.best c.in_ok-worked.ensures.no_later

pub tell-requires : goal.tell-requires
tell-requires g c = (c.in_ok-worked.ensures.searching (root_task ∷ []) c.requires.part.aside c.requires.part.searching).found
