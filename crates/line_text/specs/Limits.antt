-- How much of a piece is told (our own profile).
use Rattle.std.specs.Prelude.{ℕ}

-- the bytes of a piece as it is told
abbrev pub most_told : ℕ
most_told = 60
