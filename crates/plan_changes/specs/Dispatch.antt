-- What a node's dispatcher is told: the rows of the table of processes that `schedule` writes, without their slack, which hangs on
-- other nodes too. Own profile.
use Rattle.std.specs.Prelude.{ℕ, List, ◌++◌, codes, decimal}
use Rattle.std.specs.List.{flat_map}
use Rattle.ttp_model.specs.Instance.{Instance, node_at, process_at}
use Rattle.line_text.specs.Words.{spaced}
use Rattle.plan_sheets.specs.declared.dispatch.Dispatch.{Dispatch}
use Rattle.plan_sheets.specs.Dispatch.{dispatch_of}
use Rattle.plan_sheets.specs.Order.{order_of}
use Rattle.plan_changes.specs.Planned.{Planned}

-- the names of a node and of a process
unfoldable pub names_text : List ℕ → List ℕ → List ℕ
names_text node process = node ++ spaced process

-- two ticks
unfoldable pub ticks_text : ℕ → ℕ → List ℕ
ticks_text first second = spaced (decimal first) ++ spaced (decimal second)

-- what a row says but for its slack: node and process, start and end, release and deadline
abbrev pub row_line : Instance → Dispatch → List ℕ
row_line i row =
    names_text (node_at i row.node).name (process_at i row.process).name ++ ticks_text row.start row.end ++ ticks_text row.release row.deadline ++ codes "\n"

-- that of a process
unfoldable pub dispatch_line : Planned → ℕ → List ℕ
dispatch_line p process = row_line p.instance (dispatch_of p.instance p.plan process)

-- those of a node's processes, in the order of their starts
unfoldable pub dispatch_lines : Planned → ℕ → List ℕ
dispatch_lines p n = flat_map (dispatch_line p) (order_of p.instance p.plan n)
