-- Which texts of a plan there are, and why there is none. Own profile.
use Rattle.std.specs.Prelude.{◌≡◌, ℕ, ◌*◌, ◌<◌, ◌≤◌, List, Option, None, Some, IsSome, length}
use Rattle.std.specs.Borrow.{Bor}
use Rattle.ttp_model.specs.declared.plan.Plan.{Plan}
use Rattle.ttp_model.specs.declared.error.Part.TheVariants.{Nodes}
use Rattle.ttp_model.specs.Instance.{Instance}
use Rattle.ttp_model.specs.Names.{index_named, names_in}
use Rattle.tt_layout.specs.Cycle.{cycle_rounds}
use Rattle.sentences.specs.Shown.{IsShown}
use Rattle.schedule_exports.specs.declared.export.Chosen.{Chosen}
use Rattle.schedule_exports.specs.declared.export.Export.{Export}
use Rattle.schedule_exports.specs.declared.export.Export.TheVariants.{C, Json, Trace}
use Rattle.schedule_exports.specs.declared.export.ExportFault.{ExportFault}
use Rattle.schedule_exports.specs.declared.export.ExportFault.TheVariants.{Memory, NoSuchNode, TooManySlots}

-- how many slots a text tells, at most
abbrev pub most_slots : ℕ
most_slots = 100000

-- how many nodes are loaded: that of a name, or all
abbrev pub loaded : Instance → Option (Bor (List ℕ)) → ℕ
loaded i None = length i.nodes
loaded i (Some name) = 1

-- how often each slot of the cycle is told: once for each node that is loaded, and in a trace for each channel
abbrev pub times_told : Instance → Export → ℕ
times_told i (C node) = loaded i node
times_told i (Json node) = loaded i node
times_told i Trace = i.cluster.channels

-- how many slots a text tells
abbrev pub slots_of : Instance → Plan → Export → ℕ
slots_of i plan export = cycle_rounds i plan * length i.nodes * times_told i export

-- a node of the name is there, where one is named
abbrev pub IsThere : Instance → Option (Bor (List ℕ)) → Type 0
IsThere i None = Unit {0}
IsThere i (Some name) = IsSome (index_named i Nodes name.now)

-- so it is of a text
abbrev pub HasNode : Instance → Export → Type 0
HasNode i (C node) = IsThere i node
HasNode i (Json node) = IsThere i node
HasNode i Trace = Unit {0}

-- there is a text: of no more slots than may be, and of a node that is there
pub record IsExportText (i : Instance) (plan : Plan) (export : Export) (text : List ℕ) : Type 0 where
  pub few : slots_of i plan export ≤ most_slots
  pub there : HasNode i export
  pub shown : IsShown text

-- why there are no loads of the node of a name, or of all
abbrev pub IsLoadFault : Instance → Option (Bor (List ℕ)) → ExportFault → Type 0
IsLoadFault i name NoSuchNode = ¬ IsThere i name
IsLoadFault i name Memory = Unit {0}
IsLoadFault i name (TooManySlots count) = ⊥

-- why there is none: it would tell too many slots, or else the node isn't there
abbrev pub IsExportFault : Instance → Plan → Export → ExportFault → Type 0
IsExportFault i plan export (TooManySlots count) = (count ≡ slots_of i plan export) × (most_slots < count)
IsExportFault i plan export NoSuchNode = (slots_of i plan export ≤ most_slots) × ¬ HasNode i export
IsExportFault i plan export Memory = Unit {0}

-- which nodes are loaded: from one to another, which isn't one of them; none where no node has the name
abbrev pub HasNodes : Instance → Option (Bor (List ℕ)) → Option Chosen → Type 0
HasNodes i node None = ¬ IsThere i node
HasNodes i node (Some nodes) = IsThere i node × (nodes.end ≤ length (names_in i Nodes))
