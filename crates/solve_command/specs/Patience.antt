-- When the best plan of a search is short enough.
use Rattle.std.specs.Prelude.{ℕ, ◌≤◌, nat_le}
use Rattle.std.specs.Prelude.{◌⊎◌, Bool, false, IsTrue, is_some, Option, None, Some}

-- the best plan found takes at most as long as was asked for
abbrev pub IsEnough : Option ℕ → Option ℕ → Type 0
IsEnough None best = ⊥
IsEnough (Some most) None = ⊥
IsEnough (Some most) (Some ticks) = ticks ≤ most

-- whether it does
abbrev pub is_enough : Option ℕ → Option ℕ → Bool
is_enough None best = false
is_enough (Some most) None = false
is_enough (Some most) (Some ticks) = nat_le ticks most

-- a search whose user waits for a plan of at most so many ticks, or so many seconds, may end before its budget is spent
abbrev pub MayEnd : Option ℕ → Option ℕ → Type 0
MayEnd until seconds = IsTrue (is_some until) ⊎ IsTrue (is_some seconds)
