-- How wide a picture is, and how many slots it shows (our own profile).
use Rattle.std.specs.Prelude.{ℕ}

-- how many pixels it has across
abbrev pub least_width : ℕ
least_width = 200

abbrev pub most_width : ℕ
most_width = 10000

-- the slots of a picture that shows each of the cycle
abbrev pub most_slots : ℕ
most_slots = 100000
