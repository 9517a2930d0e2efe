-- How much memory is held back of a search.
use Rattle.std.specs.Prelude.{ℕ, ◌+◌, ◌*◌, ◌^◌, ◌-◌, List, length, max, min, sum_by}
use Rattle.ttp_model.specs.declared.parts.Message.{Message}
use Rattle.ttp_model.specs.Instance.{Instance}

-- how many receivers messages have in all
abbrev pub receivers_in : List Message → ℕ
receivers_in messages = sum_by (λ (m : Message). length m.receivers) messages

-- for how many steps there is room: two for each receiver, and one for each order of two processes
abbrev pub steps_held : Instance → ℕ
steps_held i = receivers_in i.messages * 2 + length i.processes * length i.processes

-- how many bytes are held back: four times those of the steps, of 32 each, as far as memory reaches, and never less than 4 MiB
abbrev pub held_back : Instance → ℕ
held_back i = max (min (steps_held i * 128) (2 ^ 64 - 1)) (4 * 2 ^ 20)
