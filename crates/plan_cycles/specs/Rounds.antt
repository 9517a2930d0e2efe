-- What each node is told, and what guardians let pass, in so many rounds: those of a plan's cycle, and more behind them.
use Rattle.std.specs.Prelude.{◌≡◌, ℕ, ◌+◌, ◌*◌, ◌≤◌, ◌++◌, List, [], length, map, slice_index, nat_lt, if◌then◌else◌, Option, None, Some}
use Rattle.std.specs.List.{flat_map, range_with_len}
use Rattle.ttp_model.specs.declared.plan.Plan.{Plan}
use Rattle.ttp_model.specs.Instance.{Instance}
use Rattle.medl_tables.specs.declared.row.Row.{Row}
use Rattle.medl_tables.specs.Rows.{round_rows, rows_of}
use Rattle.medl_tables.specs.Medl.{Medl}
use Rattle.medl_tables.specs.Text.{row_line, tables_text}
use Rattle.guardian_windows.specs.declared.window.Window.{Window}
use Rattle.guardian_windows.specs.Windows.{round_windows}
use Rattle.guardian_windows.specs.Text.{windows_text}

-- a node's table of so many rounds
abbrev pub rows_in : ℕ → Instance → Plan → ℕ → List Row
rows_in rounds i plan node = flat_map (round_rows i plan node) (range_with_len 0 rounds)

-- the tables of all nodes
abbrev pub tables_in : ℕ → Instance → Plan → Medl
tables_in rounds i plan = record { rounds = rounds; rows = map (rows_in rounds i plan) (range_with_len 0 (length i.nodes)) }

-- the windows
abbrev pub windows_in : ℕ → Instance → Plan → List Window
windows_in rounds i plan = flat_map (round_windows i plan) (range_with_len 0 rounds)

-- the text of both
abbrev pub loads_in : ℕ → Instance → Plan → List ℕ
loads_in rounds i plan = tables_text i (tables_in rounds i plan) ++ windows_text i (windows_in rounds i plan)

-- how many slots are told of, at most
abbrev pub most_slots : ℕ
most_slots = 1000000

-- how many slots so many rounds have, where these are too many
abbrev pub too_many_slots : Instance → ℕ → Option ℕ
too_many_slots i rounds = if nat_lt most_slots (rounds * length i.nodes) then Some (rounds * length i.nodes) else None

-- The rest serves private contracts alone. The row of a slot behind the cycle: it carries nothing, so it is the same in each table
abbrev pub empty_row : Plan → ℕ → ℕ → Row
empty_row plan r k = record {
  round = r;
  position = k;
  sender = slice_index plan.order k;
  capacity = slice_index plan.caps (slice_index plan.order k);
  messages = [];
}

-- the lines behind those of the cycle's rounds, which with them are those of so many rounds, whatever the node
abbrev pub AreLinesBehind : ℕ → Instance → Plan → List ℕ → Type 0
AreLinesBehind rounds i plan lines =
    (node : ℕ) → flat_map (row_line i) (rows_of i plan node) ++ lines ≡ flat_map (row_line i) (rows_in rounds i plan node)

-- a window in another round, which begins so many ticks later
abbrev pub later_window : ℕ → ℕ → Window → Window
later_window r ticks w = record w { round = r; from = w.from + ticks; until = w.until + ticks }

-- a window is over by this tick
abbrev pub IsOverBy : ℕ → Window → Type 0
IsOverBy tick w = (w.from ≤ tick) × (w.until ≤ tick)
