-- What is right to tell of a plan by a certificate.
use Rattle.std.specs.Prelude.{◌≡◌, ℕ, ◌<◌, List, [], ◌∷◌, ◌++◌, codes, decimal, Option, None, Some}
use Rattle.ttp_model.specs.Instance.{Instance}
use Rattle.ttp_model.specs.Delays.{HasNoPlan, IsLeastDelay, IsLowerBound}
use Rattle.command_streams.specs.Instances.{HasInstance}
use Rattle.plan_commands.specs.Judged.{IsReached, limit_of}

-- the line tells the least delay of the instance that the bytes state
pub record TellsLeast (instance line : List ℕ) : Type 0 where
  pub problem : Instance
  pub has_instance : HasInstance instance problem
  pub ticks : ℕ
  pub least : IsLeastDelay problem ticks
  pub line_is : line ≡ (codes "least " ++ decimal ticks) ++ 10 ∷ []

-- the bytes state an instance that has no plan
pub record StatesNoPlan (instance : List ℕ) : Type 0 where
  pub problem : Instance
  pub has_instance : HasInstance instance problem
  pub none : HasNoPlan problem

-- a bound, and behind it a delay, or the word that none is known
abbrev pub bounds_line : ℕ → Option ℕ → List ℕ
bounds_line low None = (codes "between " ++ (decimal low ++ codes " none")) ++ 10 ∷ []
bounds_line low (Some ticks) = (codes "between " ++ (decimal low ++ (codes " " ++ decimal ticks))) ++ 10 ∷ []

-- the line tells a delay that no valid plan of that instance is below, and one above it that some valid plan has, where one is known
pub record TellsBounds (instance line : List ℕ) : Type 0 where
  pub problem : Instance
  pub has_instance : HasInstance instance problem
  pub low : ℕ
  pub best : Option ℕ
  pub bound : IsLowerBound problem low
  pub below : low < limit_of problem best
  pub reached : IsReached problem best
  pub line_is : line ≡ bounds_line low best
