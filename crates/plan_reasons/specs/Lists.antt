-- Why a list of a wrong length, a position of the order or a capacity is refused. Own profile.
use Rattle.std.specs.Prelude.{◌≡◌, ◌≢◌, ℕ, ◌+◌, ◌<◌, Contains, List, length, slice_index}
use Rattle.ttp_model.specs.declared.fault.PlanPart.{PlanPart}
use Rattle.ttp_model.specs.declared.fault.PlanPart.TheVariants as part
use Rattle.ttp_model.specs.declared.plan.Plan.{Plan}
use Rattle.ttp_model.specs.Instance.{Instance, node_at}
use Rattle.ttp_model.specs.Names.{node_name}
use Rattle.plan_reasons.specs.declared.lists.WrongCapacity.{WrongCapacity}
use Rattle.plan_reasons.specs.declared.lists.WrongLength.{WrongLength}
use Rattle.plan_reasons.specs.declared.lists.WrongPosition.{WrongPosition}
use Rattle.plan_reasons.specs.declared.lists.WrongPosition.TheVariants.{Again, NoNode}
use Rattle.plan_reasons.specs.Differences.{IsDifference}

-- how many entries a list has
abbrev pub entries_of : Plan → PlanPart → ℕ
entries_of plan part.Order = length plan.order
entries_of plan part.Capacities = length plan.caps
entries_of plan part.Starts = length plan.starts
entries_of plan part.Rounds = length plan.rounds
entries_of plan part.Channels = length plan.channels

-- and has to have
abbrev pub owners_of : Instance → PlanPart → ℕ
owners_of i part.Order = length i.nodes
owners_of i part.Capacities = length i.nodes
owners_of i part.Starts = length i.processes
owners_of i part.Rounds = length i.messages
owners_of i part.Channels = length i.messages

-- both numbers, and by how much they differ
pub record IsWrongLength (i : Instance) (plan : Plan) (list : PlanPart) (r : WrongLength) : Type 0 where
  pub list_is : r.list ≡ list
  pub entries_are : r.entries ≡ entries_of plan list
  pub owners_are : r.owners ≡ owners_of i list
  pub by_is : IsDifference r.entries r.owners r.by

-- this is the first position with the node of position k
pub record IsFirstPosition (order : List ℕ) (k first : ℕ) : Type 0 where
  pub same : slice_index order first ≡ slice_index order k
  pub least : (j : ℕ) → j < first → slice_index order j ≢ slice_index order k

-- position k has a node that stands before it, or a number that is above that of the last node
abbrev pub IsWrongPosition : Instance → Plan → ℕ → WrongPosition → Type 0
IsWrongPosition i plan k (Again position node first) =
    (position ≡ k) × (node.now ≡ node_name i (slice_index plan.order k)) × (first < k) × IsFirstPosition plan.order k first
IsWrongPosition i plan k (NoNode position number last by) =
    (position ≡ k) × (number ≡ slice_index plan.order k) × (last + 1 ≡ length i.nodes) × (0 < by) × (last + by ≡ number)

-- what node n has, and all that it offers, of which it is none
pub record IsWrongCapacity (i : Instance) (plan : Plan) (n : ℕ) (r : WrongCapacity) : Type 0 where
  pub node_is : r.node.now ≡ node_name i n
  pub capacity_is : r.capacity ≡ slice_index plan.caps n
  pub offered_are : r.offered.now ≡ (node_at i n).capacities
  pub wrong : ¬ Contains r.offered.now r.capacity
