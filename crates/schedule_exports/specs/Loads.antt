-- What nodes are loaded with: the order of their processes, and the rows of their tables, with their ticks. Own profile.
use Rattle.std.specs.Prelude.{◌≡◌, ℕ, ◌<◌, length}
use Rattle.ttp_model.specs.declared.plan.Plan.{Plan}
use Rattle.ttp_model.specs.Instance.{Instance}
use Rattle.ttp_model.specs.Plans.{end_of, start_of}
use Rattle.ttp_model.specs.Slots.{slot_end, slot_start}
use Rattle.medl_tables.specs.declared.row.Row.{Row}
use Rattle.medl_tables.specs.Rows.{rows_of}
use Rattle.plan_sheets.specs.Order.{order_of}
use Rattle.sentences.specs.Lists.{AreTold}
use Rattle.schedule_exports.specs.declared.loads.NodeLoad.{NodeLoad}
use Rattle.schedule_exports.specs.declared.loads.Run.{Run}
use Rattle.schedule_exports.specs.declared.loads.Turn.{Turn}

-- process p, from its start to its end
pub record IsRun (i : Instance) (plan : Plan) (p : ℕ) (run : Run) : Type 0 where
  pub process : run.process ≡ p
  pub start : run.start ≡ start_of plan p
  pub end : run.end ≡ end_of i plan p

-- some process
abbrev pub IsSomeRun : Instance → Plan → Run → Type 0
IsSomeRun i plan run = IsRun i plan run.process run

-- the slot of a row, from its begin to its end
pub record IsTurn (i : Instance) (plan : Plan) (row : Row) (turn : Turn) : Type 0 where
  pub same : turn.row.now ≡ row
  pub start : turn.start ≡ slot_start i.cluster plan.order plan.caps row.sender row.round
  pub end : turn.end ≡ slot_end i.cluster plan.order plan.caps row.sender row.round

-- what a node is loaded with: its processes in the order of their starts, and each slot of its table
pub record IsNodeLoad (i : Instance) (plan : Plan) (load : NodeLoad) : Type 0 where
  pub there : load.node < length i.nodes
  pub runs : AreTold (IsRun i plan) (order_of i plan load.node) load.runs.items
  pub turns : AreTold (IsTurn i plan) (rows_of i plan load.node) load.turns.items
