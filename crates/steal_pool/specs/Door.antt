-- What a clause says of a way into a deque.
use Rattle.std.specs.Prelude.{List, map}
use Rattle.std.specs.declared.alloc.Global.{Global}
use Rattle.atomic_blocks.specs.Lent.{RowsId}
use Rattle.crossbeam_deque.specs.Handles.{view, stealer_deque}
use Rattle.search_trees.specs.Task.{Task}
use Rattle.steal_pool.specs.declared.door.Door.{Door}

-- which deque one is
abbrev pub DequeId : Type 0
DequeId = RowsId × Global

-- the deque that it leads to
abbrev pub deque_of : {J : Type 0} → Door J → DequeId
deque_of d = stealer_deque d.thief

-- the tasks that were taken through it
abbrev pub taken_by : {J : Type 0} → Door J → List Task
taken_by d = (view d.ticket).taken

-- the deques that some ways lead to
abbrev pub deques_of : {J : Type 0} → List (Door J) → List DequeId
deques_of doors = map deque_of doors
