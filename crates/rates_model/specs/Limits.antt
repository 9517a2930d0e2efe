-- How large the parts of a cluster of several rates may be, where an instance has none such (our own profile).
use Rattle.std.specs.Prelude.{ℕ}

-- the chains of a cluster
abbrev pub most_chains : ℕ
most_chains = 64

-- the processes of a chain
abbrev pub least_through : ℕ
least_through = 2

abbrev pub most_through : ℕ
most_through = 32

-- by how many periods later than it could a link or a message is read
abbrev pub most_delay : ℕ
most_delay = 1
