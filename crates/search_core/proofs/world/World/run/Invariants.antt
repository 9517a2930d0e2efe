use Rattle.std.specs.VecDeque.{deque_len}
use Rattle.std.proofs.Common.{Result}
use Rattle.search_core.specs.declared.reply.Illegal.{Illegal}
use Rattle.search_core.specs.World.{World}
use Rattle.search_core.specs.Steps.{Runs}
use Rattle.search_core.proofs.world.World.run.Given as goal

abbrev pub invariant-loop-event : goal.invariant-loop-event
invariant-loop-event l =
    (result : Result Unit Illegal) (last : World) → Runs l.self l.waiting.items result last → Runs l.initial.self l.initial.waiting.items result last

abbrev pub decreases-loop-event : goal.decreases-loop-event
decreases-loop-event l = deque_len l.waiting
