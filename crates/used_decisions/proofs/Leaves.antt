-- A leaf closes a subtree, by the decisions that its steps use.
use Rattle.std.proofs.Common.{◌≡◌, ℕ, ◌<◌, ◌≤◌, List, [], length, All, Bool, arith, subst}
use Rattle.ttp_model.specs.declared.step.Leaf.{Leaf}
use Rattle.ttp_model.specs.Instance.{Instance}
use Rattle.ttp_model.specs.Rules.{IsInstance}
use Rattle.tt_choice.specs.declared.decision.Decision.{Decision}
use Rattle.tt_choice.specs.Branches.{root_choice}
use Rattle.tt_choice.specs.Decisions.{AreOpenDecisions, chosen}
use Rattle.tt_choice.specs.Kept.{Marked, all_of}
use Rattle.sought_plans.specs.Known.{first_facts}
use Rattle.tt_infer.specs.Leaves.{ClosesSharply}
use Rattle.tt_infer.specs.Uses.{UseKept}
use Rattle.tt_infer.specs.RuledOut.IsRuledOut.{by_leaf}
use Rattle.used_decisions.specs.declared.turn.Turn.{Turn}
use Rattle.used_decisions.specs.Marks.{KeepsLevels}
use Rattle.used_decisions.specs.Proved.{levelled, IsProvedBy}
use Rattle.used_decisions.proofs.Marks.{all_of_is, levels_below}

pub proved_by_leaf : (i : Instance) (ds : List Decision) (leaf : Leaf) (used : List Bool) (low : ℕ) → low ≤ leaf.goal
    → AreOpenDecisions i (root_choice i) ds → ClosesSharply i (chosen i ds) leaf
    → ((ms : List Marked) → AreOpenDecisions i (root_choice i) (all_of ms) → KeepsLevels used (levelled 0 ds) ms → ClosesSharply i (chosen i (all_of ms)) leaf
    → UseKept i ms leaf.goal (first_facts i (chosen i (all_of ms))) [] leaf.steps)
    → IsProvedBy i low used ds
proved_by_leaf i ds leaf used low within are closes uses = λ ms keeps.
    let all : all_of ms ≡ ds = all_of_is used 0 ds ms keeps in
    let closed : ClosesSharply i (chosen i (all_of ms)) leaf = rw all closes in
    by_leaf ms leaf within closed (uses ms (rw all are) keeps closed)

-- as a reader of the path's leaves tells
pub proved_by_read : (i reader : Instance) (ds : List Decision) (leaf : Leaf) (used : List Bool) (turns : List Turn) (depth low : ℕ)
    → reader ≡ i → turns ≡ levelled 0 ds → length ds ≤ depth → IsInstance i → low ≤ leaf.goal
    → AreOpenDecisions i (root_choice i) ds → ClosesSharply i (chosen i ds) leaf
    → ((ms : List Marked) → All (λ (turn : Turn). turn.level < depth) turns → IsInstance reader → AreOpenDecisions reader (root_choice reader) (all_of ms)
    → KeepsLevels used turns ms → ClosesSharply reader (chosen reader (all_of ms)) leaf
    → UseKept reader ms leaf.goal (first_facts reader (chosen reader (all_of ms))) [] leaf.steps)
    → IsProvedBy i low used ds
proved_by_read i reader ds leaf used turns depth low same is deep w within are closes uses =
    let here = subst (λ (r : Instance). (ms : List Marked) → All (λ (turn : Turn). turn.level < depth) turns → IsInstance r
    → AreOpenDecisions r (root_choice r) (all_of ms) → KeepsLevels used turns ms → ClosesSharply r (chosen r (all_of ms)) leaf
    → UseKept r ms leaf.goal (first_facts r (chosen r (all_of ms))) [] leaf.steps) same uses in
    let room : All (λ (turn : Turn). turn.level < depth) turns = rw is (levels_below 0 ds depth (omega (arith, deep))) in
    proved_by_leaf i ds leaf used low within are closes (λ ms all keeps closed. here ms room w all (rw is keeps) closed)
