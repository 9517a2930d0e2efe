-- What a leaf's steps use is kept, where the levels are that its reader answers.
use Rattle.std.proofs.Common.{◌≡◌, ℕ, ◌<◌, ◌≤◌, List, [], length, replicate, All, Bool, false, arith, ap, sym, subst, ◌∙◌}
use Rattle.std.proofs.lemmas.List.{length-replicate}
use Rattle.std.proofs.lemmas.List.Elements.{All-weaker}
use Rattle.ttp_model.specs.declared.step.Leaf.{Leaf}
use Rattle.ttp_model.specs.Instance.{Instance}
use Rattle.ttp_model.specs.Rules.{IsInstance}
use Rattle.tt_choice.specs.declared.decision.Decision.{Decision}
use Rattle.tt_choice.specs.Branches.{root_choice}
use Rattle.tt_choice.specs.Decisions.{AreOpenDecisions, chosen}
use Rattle.tt_choice.specs.Kept.{Marked, all_of}
use Rattle.tt_choice.proofs.Decisions.{IsChoice-after_all}
use Rattle.tt_choice.proofs.Root.{IsChoice-root}
use Rattle.sought_plans.specs.Known.{first_facts}
use Rattle.tt_infer.specs.Leaves.{ClosesSharply}
use Rattle.tt_infer.proofs.FirstFacts.{first_facts_fit}
use Rattle.tt_infer.specs.Uses.{UseKept}
use Rattle.used_decisions.specs.declared.turn.Turn.{Turn}
use Rattle.used_decisions.specs.Turns.{Path}
use Rattle.used_decisions.specs.Marks.{KeepsLevels}
use Rattle.used_decisions.specs.declared.given.Given.{Given}
use Rattle.used_decisions.specs.declared.uses.Uses.{Uses}
use Rattle.used_decisions.specs.Steps.{AreStepsTold, HasFlags, IsGivenBy, IsReadOf, choice_of, decisions_of}
use Rattle.used_decisions.proofs.Behind.{behind_none}
use Rattle.used_decisions.proofs.Gives.{flags_still, nothing_given_by}
use Rattle.used_decisions.proofs.Keeps.{AreLevelsOf, decisions_are, use_kept}

pub wider : (turns : List Turn) (n k : ℕ) → n ≤ k → All (λ turn. turn.level < n) turns → All (λ turn. turn.level < k) turns
wider turns n k within all =
    All-weaker (λ (turn : Turn). turn.level < n) (λ (turn : Turn). turn.level < k) (λ turn below. omega (arith, below, within)) turns all

pub used_is_kept : (path : Path) (old new : Uses) (levels : List Bool) (ms : List Marked) (leaf : Leaf) → IsInstance path.instance
    → AreOpenDecisions path.instance (root_choice path.instance) (all_of ms) → All (λ turn. turn.level < length old.levels) path.turns
    → KeepsLevels levels path.turns ms → (IsReadOf path old → AreStepsTold path new [] leaf.steps)
    → AreLevelsOf path new levels
    → ClosesSharply path.instance (chosen path.instance (all_of ms)) leaf
    → UseKept path.instance ms leaf.goal (first_facts path.instance (chosen path.instance (all_of ms))) [] leaf.steps
used_is_kept path old new levels ms leaf w are room keeps told marked closes =
    let i = path.instance in
    let same : all_of ms ≡ decisions_of path.turns = decisions_are levels path.turns ms keeps in
    let is_open : AreOpenDecisions i (root_choice i) (decisions_of path.turns) = subst (AreOpenDecisions i (root_choice i)) same are in
    let read : IsReadOf path old = record { rules = w; are_open = is_open; room = room } in
    let ok = IsChoice-after_all i (root_choice i) (decisions_of path.turns) (IsChoice-root i w) is_open in
    let closed : ClosesSharply i (choice_of path) leaf = subst (λ (ds : List Decision). ClosesSharply i (chosen i ds) leaf) same closes in
    subst (λ (ds : List Decision). UseKept i ms leaf.goal (first_facts i (chosen i ds)) [] leaf.steps) (sym same)
    (use_kept path new levels ms marked keeps leaf.goal [] (first_facts i (choice_of path)) leaf.steps closed.0 w
    (first_facts_fit i (choice_of path) ok) (behind_none path) closed.1 (told read))

-- the same of an instance that is the path's
pub used_is_kept_of : (i : Instance) (path : Path) (old new : Uses) (levels : List Bool) (ms : List Marked) (leaf : Leaf) → path.instance ≡ i → IsInstance i
    → AreOpenDecisions i (root_choice i) (all_of ms) → All (λ turn. turn.level < length old.levels) path.turns
    → KeepsLevels levels path.turns ms → (IsReadOf path old → AreStepsTold path new [] leaf.steps)
    → AreLevelsOf path new levels → ClosesSharply i (chosen i (all_of ms)) leaf
    → UseKept i ms leaf.goal (first_facts i (chosen i (all_of ms))) [] leaf.steps
used_is_kept_of i path old new levels ms leaf same w are room keeps told marked closes =
    let of_path = subst (λ (j : Instance). IsInstance j → AreOpenDecisions j (root_choice j) (all_of ms) → ClosesSharply j (chosen j (all_of ms))
    leaf → UseKept j ms leaf.goal (first_facts j (chosen j (all_of ms))) [] leaf.steps) same
    (λ w are closes. used_is_kept path old new levels ms leaf w are room keeps told marked closes) in
    of_path w are closes

-- no flag is up in front of a leaf
pub begun : (i : Instance) (old new : Given) → new.processes ≡ old.processes → new.least ≡ replicate (length old.least) false
    → new.greatest ≡ replicate (length old.greatest) false
    → new.before ≡ replicate (length old.before) false → HasFlags i old → HasFlags i new × IsGivenBy i new []
begun i old new processes least greatest before has =
    let flags = flags_still i old new processes
    (ap length least ∙ length-replicate {A = Bool} (length old.least) false)
    (ap length greatest ∙ length-replicate {A = Bool} (length old.greatest) false)
    (ap length before ∙ length-replicate {A = Bool} (length old.before) false) has in
    (flags, nothing_given_by i new (length old.least) (length old.greatest) (length old.before) least greatest before flags)
