-- A small worked search: one worker closes the whole tree of the example with one message.
use Rattle.std.specs.Prelude.{List, [], ◌∷◌}
use Rattle.ttp_model.specs.declared.step.Leaf.{Leaf}
use Rattle.ttp_model.specs.declared.step.Step.TheVariants.{EsRelease, LoSend, EsArrive, LeOwn, XWindow}
use Rattle.certificate.specs.declared.node.Node.TheVariants as node
use Rattle.search_trees.specs.Name.{root_name}
use Rattle.search_core.specs.declared.event.Event.{Event}
use Rattle.search_core.specs.declared.event.Event.TheVariants.{Pop, Look, Work}
use Rattle.search_core.specs.declared.event.Worked.TheVariants.{Closed}
use Rattle.search_core.specs.World.{World, idle_seat}

-- no plan has a delay below 9: the message is sent in round 1, and q ends at 9
abbrev pub leaf_at_9 : Leaf
leaf_at_9 = record { goal = 9; steps = EsRelease 0 ∷ LoSend 0 ∷ EsArrive 0 1 ∷ LeOwn 1 ∷ XWindow 1 ∷ [] }

-- the worker takes the root, sees the best delay, and closes it
abbrev pub root_closed : List Event
root_closed = Pop 0 ∷ Look 0 ∷ Work 0 (Closed leaf_at_9) ∷ []

-- then the leaf is its one piece, and all else is as at first, but for the root's name
abbrev pub all_closed : World
all_closed = record {
  best = 9;
  seats = record (idle_seat 9) { pieces = record { name = root_name; node = node.Leaf leaf_at_9 } ∷ [] } ∷ [];
}
