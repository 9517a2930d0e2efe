-- What a change of an instance and its plan touches: the whole text. Own profile.
use Rattle.std.specs.Prelude.{◌≡◌, ℕ, List, [], ◌++◌, ◌||◌, All, bytes_eq, codes, if◌then◌else◌, map}
use Rattle.std.specs.Cmp.Lexicographic.{pointwise}
use Rattle.ttp_model.specs.Instance.{node_at}
use Rattle.plan_format.specs.declared.column.Column.TheVariants.{Capacity, Start, Round, Channel}
use Rattle.plan_format.specs.Channels.{has_two_channels}
use Rattle.plan_changes.specs.declared.fate.Fate.TheVariants.{Same}
use Rattle.plan_changes.specs.Planned.{Planned}
use Rattle.plan_changes.specs.Units.{fate_of, nodes_of_either, units_text}
use Rattle.plan_changes.specs.declared.attributes.Attribute.TheVariants.{Node, Wcet}
use Rattle.plan_changes.specs.Attributes.{attributes_text}
use Rattle.plan_changes.specs.Figures.{differences_text}

-- the nodes' names in the order of their slots
abbrev pub names_in_order : Planned → List (List ℕ)
names_in_order p = map (λ n. (node_at p.instance n).name) p.plan.order

-- whether the slots are in another order
unfoldable pub order_text : Planned → Planned → List ℕ
order_text old new = if pointwise bytes_eq (names_in_order old) (names_in_order new) then [] else codes "order changed\n"

-- what is different of channels: nothing is told of them where both have one
unfoldable pub channels_text : Planned → Planned → List ℕ
channels_text old new = if has_two_channels old.instance || has_two_channels new.instance then differences_text old new Channel else []

-- what is different of the plan: the order, the nodes and times of processes, and then capacities, starts, rounds and channels
abbrev pub plan_text : Planned → Planned → List ℕ
plan_text old new =
    order_text old new ++ attributes_text old new Node ++ attributes_text old new Wcet ++ differences_text old new Capacity ++ differences_text old new Start
    ++ differences_text old new Round ++ channels_text old new

-- the whole text: a line for each node of either, and then what is different of the plan
abbrev pub changes_text : Planned → Planned → List ℕ
changes_text old new = units_text old new ++ plan_text old new

-- nothing is different: each node of either is the same, and no line stands behind
pub record IsUnchanged (old new : Planned) : Type 0 where
  pub units : All (λ name. fate_of old new name ≡ Same) (nodes_of_either old new)
  pub plan : plan_text old new ≡ []
