-- What a worker is left with after a pop.
use Rattle.std.specs.Prelude.{◌≡◌, [], ◌∷◌, ◌++◌}
use Rattle.search_trees.specs.Name.{Name}
use Rattle.search_core.specs.declared.hand.Hand.TheVariants.{Task}
use Rattle.search_core.specs.declared.reply.Reply.{Reply}
use Rattle.search_core.specs.declared.reply.Reply.TheVariants as reply
use Rattle.search_core.specs.World.{Worker}

-- the last name of a worker's deque is its task and the answer, and the others stay
pub record TakesLast (old new : Worker) (answer : Reply) : Type 0 where
  pub name : Name
  pub answer_is : answer ≡ reply.Name name
  pub task : new.hand ≡ Task name
  pub last : old.deque ≡ new.deque ++ name ∷ []
