-- What of the branches above a leaf is marked: levels, places of the order, and capacities on either side. Only private contracts ask for it.
use Rattle.std.specs.Prelude.{◌≡◌, ℕ, ◌<◌, ◌≤◌, List, length, Bool, IsTrue, All}
use Rattle.used_decisions.specs.declared.uses.Uses.{Uses}
use Rattle.used_decisions.specs.declared.turn.Placed.{Placed}
use Rattle.used_decisions.specs.Levels.{has_level}

-- at least as much is marked as before, in the same room
pub record IsMore (old new : Uses) : Type 0 where
  pub room : length new.levels ≡ length old.levels
  pub levels : (level : ℕ) → IsTrue (has_level old.levels level) → IsTrue (has_level new.levels level)
  pub places : old.places ≤ new.places
  pub above : IsTrue old.above_least → IsTrue new.above_least
  pub below : IsTrue old.below_most → IsTrue new.below_most

-- more levels are in a set than before, in the same room
pub record IsGrown (old new : List Bool) : Type 0 where
  pub room : length new ≡ length old
  pub kept : (level : ℕ) → IsTrue (has_level old level) → IsTrue (has_level new level)

-- the levels of these nodes were put into a set, as far as there is room, and none was taken out
pub record HaveMarked (placed : List Placed) (old new : List Bool) : Type 0 where
  pub as_wide : length new ≡ length old
  pub kept : (level : ℕ) → IsTrue (has_level old level) → IsTrue (has_level new level)
  pub marked : All (λ one. one.level < length old → IsTrue (has_level new one.level)) placed
