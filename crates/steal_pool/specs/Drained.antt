-- What a clause says of the hands of a pool that is drained.
use Rattle.std.specs.Prelude.{ℕ, ◌-◌, List, length}
use Rattle.search_trees.specs.Task.{Task}
use Rattle.steal_pool.specs.declared.drained.Drained.{Drained}
use Rattle.steal_pool.specs.Hand.{all_pushed, all_taken}

-- all tasks that were pushed to the pool
abbrev pub pushed_there : {J : Type 0} → Drained J → List Task
pushed_there d = all_pushed d.hands.items

-- all tasks that were taken or drained
abbrev pub taken_there : {J : Type 0} → Drained J → List Task
taken_there d = all_taken d.hands.items

-- how many tasks are still to come
abbrev pub left_there : {J : Type 0} → Drained J → ℕ
left_there d = length (pushed_there d) - length (taken_there d)
