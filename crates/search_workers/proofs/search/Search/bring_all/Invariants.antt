use Rattle.std.proofs.Common.{◌≡◌, ◌≤◌, vec_len, IsPermutation}
use Rattle.search_workers.proofs.search.Search.bring_all.Given as goal

abbrev pub invariant-loop-at : goal.invariant-loop-at
invariant-loop-at l = record {
  moved : IsPermutation l.initial.self.tasks.items l.self.tasks.items;
  pieces : l.self.pieces.items ≡ l.initial.self.pieces.items;
  best : l.self.best ≡ l.initial.self.best;
  kept : l.kept ≤ vec_len l.self.tasks;
}
