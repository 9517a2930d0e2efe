-- The tables of a plan.
use Rattle.std.specs.Prelude.{ℕ, List}
use Rattle.ttp_model.specs.declared.plan.Plan.{Plan}
use Rattle.ttp_model.specs.Instance.{Instance}
use Rattle.plan_sheets.specs.declared.table.Table.{Table}
use Rattle.plan_sheets.specs.declared.table.Table.TheVariants.{Messages, Processes, Slots}
use Rattle.plan_sheets.specs.Deliveries.{deliveries_text}
use Rattle.plan_sheets.specs.Dispatch.{dispatches_text}
use Rattle.plan_sheets.specs.Slots.{slots_text}

-- the text of each
abbrev pub table_text : Instance → Plan → Table → List ℕ
table_text i plan Processes = dispatches_text i plan
table_text i plan Slots = slots_text i plan
table_text i plan Messages = deliveries_text i plan
