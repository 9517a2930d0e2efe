-- The table of processes: when each is dispatched, and by how much it may run longer. Own profile.
use Rattle.std.specs.Prelude.{ℕ, ◌<◌, List, [], ◌∷◌, ◌++◌, codes, decimal, length}
use Rattle.std.specs.List.{flat_map, range_with_len}
use Rattle.ttp_model.specs.declared.plan.Plan.{Plan}
use Rattle.ttp_model.specs.Instance.{Instance, node_at, node_of, process_at}
use Rattle.ttp_model.specs.Plans.{end_of, start_of}
use Rattle.plan_sheets.specs.declared.dispatch.Dispatch.{Dispatch}
use Rattle.plan_sheets.specs.Lines.{line_of}
use Rattle.plan_sheets.specs.Order.{order_of}
use Rattle.plan_facts.specs.Ends.{must_end_by}
use Rattle.instance_variants.specs.Slack.{slack}

-- the row of a process
abbrev pub dispatch_of : Instance → Plan → ℕ → Dispatch
dispatch_of i plan p = record {
  node = node_of i p;
  process = p;
  start = start_of plan p;
  end = end_of i plan p;
  release = (process_at i p).release;
  deadline = must_end_by i p;
  slack = slack i plan p;
}

-- its line: node,process,start,end,release,deadline,slack, with names for the first two
abbrev pub dispatch_line : Instance → Dispatch → List ℕ
dispatch_line i row =
    line_of ((node_at i row.node).name ∷ (process_at i row.process).name ∷ decimal row.start ∷ decimal row.end ∷ decimal row.release ∷ decimal row.deadline ∷ decimal row.slack ∷ [])

-- the line of this process
unfoldable pub dispatch_text : Instance → Plan → ℕ → List ℕ
dispatch_text i plan p = dispatch_line i (dispatch_of i plan p)

-- the lines of a node's processes, in the order of their starts
unfoldable pub node_text : Instance → Plan → ℕ → List ℕ
node_text i plan n = flat_map (dispatch_text i plan) (order_of i plan n)

-- the whole table, node by node
unfoldable pub dispatches_text : Instance → Plan → List ℕ
dispatches_text i plan =
    codes "node,process,start,end,release,deadline,slack\n" ++ flat_map (node_text i plan) (range_with_len 0 (length i.nodes))

-- the node and the process that a row names are there
pub record IsDispatchRow (i : Instance) (row : Dispatch) : Type 0 where
  pub node : row.node < length i.nodes
  pub process : row.process < length i.processes
