-- How deadlines and the horizon are marked. Own profile.
use Rattle.std.specs.Prelude.{ℕ, ◌+◌, ◌-◌, ◌&&◌, Bool, List, [], ◌++◌, codes, decimal, if◌then◌else◌, length, nat_le, nat_lt}
use Rattle.std.specs.List.{flat_map, range_with_len}
use Rattle.ttp_model.specs.Instance.{Instance, node_of, process_at}
use Rattle.plan_sheets.specs.declared.pictures.canvas.Canvas.{Canvas}
use Rattle.plan_sheets.specs.declared.pictures.lines.Line.{Line}
use Rattle.plan_sheets.specs.Canvas.{place_text, row_of, top_of}
use Rattle.plan_sheets.specs.DeliveryLines.{line_text}
use Rattle.plan_sheets.specs.Scale.{upright_text}

-- whether a process has a deadline of its own, before the horizon, that lies in the cycle
abbrev pub has_mark : Canvas → Instance → ℕ → Bool
has_mark c i p = nat_lt (process_at i p).deadline i.cluster.horizon && nat_le (process_at i p).deadline c.cycle

-- the line at a tick in a row, which goes on for three pixels below its rectangles
abbrev pub due_line : ℕ → ℕ → Line
due_line row due = record { from = due; from_height = top_of row; to = due; to_height = top_of row + 27 }

-- that of a process's deadline, in its node's row
abbrev pub deadline_of : Instance → ℕ → Line
deadline_of i p = due_line (row_of i (node_of i p)) (process_at i p).deadline

-- its title, and its number above the row
unfoldable pub due_text : Canvas → List ℕ → ℕ → ℕ → List ℕ
due_text c name row due =
    codes "<title>" ++ (name ++ (codes " is due by " ++ (decimal due ++ (codes "</title></line><text x=\"" ++ (place_text c due
    ++ (codes "\" y=\"" ++ (decimal (top_of row - 1) ++ (codes "\">" ++ (decimal due ++ codes "</text></g>\n")))))))))

-- what begins the mark of a deadline
unfoldable pub due_front : List ℕ
due_front = codes "<g class=\"due\">"

-- the deadline of a process
unfoldable pub deadline_text : Canvas → Instance → ℕ → List ℕ
deadline_text c i p =
    due_front ++ (line_text c (deadline_of i p) ++ due_text c (process_at i p).name (row_of i (node_of i p)) (process_at i p).deadline)

-- what is drawn of it
abbrev pub deadline_piece : Canvas → Instance → ℕ → List ℕ
deadline_piece c i p = if has_mark c i p then deadline_text c i p else []

-- the deadlines of all processes
unfoldable pub deadlines_text : Canvas → Instance → List ℕ
deadlines_text c i = flat_map (deadline_piece c i) (range_with_len 0 (length i.processes))

-- the number of a horizon
unfoldable pub end_words : Canvas → ℕ → List ℕ
end_words c horizon =
    codes "<text class=\"horizon\" x=\"" ++ (place_text c horizon ++ (codes "\" y=\"30\">horizon " ++ (decimal horizon ++ codes "</text>\n")))

-- the title of its line
unfoldable pub end_title : ℕ → List ℕ
end_title horizon = codes "><title>horizon " ++ (decimal horizon ++ codes "</title></line>")

-- a horizon: a line through all rows, with its number
unfoldable pub end_text : Canvas → ℕ → List ℕ
end_text c horizon = upright_text c (codes "horizon") horizon ++ (end_title horizon ++ end_words c horizon)

-- that of the instance, where it lies in the cycle
abbrev pub horizon_text : Canvas → Instance → List ℕ
horizon_text c i = if nat_le i.cluster.horizon c.cycle then end_text c i.cluster.horizon else []
