-- What steps of a leaf gave. Only private contracts ask for it.
use Rattle.std.specs.Prelude.{ℕ, ◌*◌, replicate, slice_index_or, Bool, false}
use Rattle.used_decisions.specs.Tables.{order_place}
use Rattle.used_decisions.specs.declared.given.Given.{Given}

-- nothing, of so many processes and messages
abbrev pub nothing_given : ℕ → ℕ → Given
nothing_given processes messages = record {
  processes = processes;
  least = replicate messages false;
  greatest = replicate messages false;
  before = replicate (processes * processes) false;
}

-- whether a message's least round was given, its greatest one, and that a process goes before another
abbrev pub gives_least : Given → ℕ → Bool
gives_least given m = slice_index_or given.least m false

abbrev pub gives_greatest : Given → ℕ → Bool
gives_greatest given m = slice_index_or given.greatest m false

abbrev pub gives_before : Given → ℕ → ℕ → Bool
gives_before given p q = slice_index_or given.before (order_place given.processes p q) false
