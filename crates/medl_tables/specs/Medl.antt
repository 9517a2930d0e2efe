-- The tables of all nodes of a plan. Own profile.
use Rattle.std.specs.Prelude.{◌≡◌, ℕ, ◌<◌, List, All, length, map}
use Rattle.std.specs.List.{range_with_len}
use Rattle.ttp_model.specs.declared.plan.Plan.{Plan}
use Rattle.ttp_model.specs.Instance.{Instance}
use Rattle.ttp_model.specs.Plans.{IsValid}
use Rattle.tt_layout.specs.Cycle.{cycle_rounds}
use Rattle.medl_tables.specs.declared.row.Row.{Row}
use Rattle.medl_tables.specs.Rows.{rows_of}

-- how many rounds the cycle has, and the table of each node, by its index
pub record Medl : Type 0 where
  pub rounds : ℕ
  pub rows : List (List Row)

-- those of a plan
abbrev pub medl_of : Instance → Plan → Medl
medl_of i plan = record { rounds = cycle_rounds i plan; rows = map (rows_of i plan) (range_with_len 0 (length i.nodes)) }

-- these are the tables of some valid plan of the instance
pub record AreTables (i : Instance) (tables : Medl) : Type 0 where
  pub plan : Plan
  pub valid : IsValid i plan
  pub of : tables ≡ medl_of i plan

-- the node and the messages that a row names are there
pub record IsRowOf (i : Instance) (row : Row) : Type 0 where
  pub sender : row.sender < length i.nodes
  pub messages : All (λ e. e.message < length i.messages) row.messages
