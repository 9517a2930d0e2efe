-- The greatest and the least of some numbers, however many these are.
use Rattle.std.specs.Prelude.{ℕ, ◌≤◌}

-- x is one of them, and none is greater
pub record IsGreatest (Is : ℕ → Type 0) (x : ℕ) : Type 0 where
  pub one : Is x
  pub greatest : (y : ℕ) → Is y → y ≤ x

-- x is one of them, and none is less
pub record IsLeast (Is : ℕ → Type 0) (x : ℕ) : Type 0 where
  pub one : Is x
  pub least : (y : ℕ) → Is y → x ≤ y
