-- Rounds of several threads. Only private contracts ask for it.
use Rattle.std.specs.Prelude.{◌≡◌, ◌+◌, ◌≤◌, [], None, vec_len, vec_capacity}
use Rattle.search_workers.specs.declared.search.Search.{Search}
use Rattle.search_workers.specs.declared.rounds.Deal.{Deal}

-- nothing is worked, open or found
pub record IsEmpty (search : Search) : Type 0 where
  pub pieces : search.pieces.items ≡ []
  pub tasks : search.tasks.items ≡ []
  pub best : search.best ≡ None
  pub no_pieces : vec_len search.pieces ≡ 0
  pub no_tasks : vec_len search.tasks ≡ 0

-- there is room in a search for what becomes of tasks that are taken out of it
pub record HasRoomFor (search : Search) (deal : Deal) : Type 0 where
  pub dealt : vec_len deal.tasks ≤ deal.stint.room
  pub pieces : vec_len search.pieces + deal.stint.turns ≤ vec_capacity search.pieces
  pub tasks : vec_len search.tasks + deal.stint.room ≤ vec_capacity search.tasks
