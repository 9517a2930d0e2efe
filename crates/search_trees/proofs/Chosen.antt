-- What open decisions make of the choice in which nothing is chosen.
use Rattle.std.proofs.Common.{◌≡◌, ℕ, zero, suc, ◌+◌, ◌<◌, List, [], ◌∷◌, length, slice_index_or, take, arith, sym, ap, ◌∙◌}
use Rattle.std.proofs.lemmas.List.{take_more}
use Rattle.ttp_model.specs.declared.step.Kind.{Kind}
use Rattle.ttp_model.specs.Instance.{Instance}
use Rattle.ttp_model.specs.Rules.{IsInstance}
use Rattle.tt_choice.specs.declared.decision.Decision.{Decision}
use Rattle.tt_choice.specs.Choice.{Choice, IsChoice}
use Rattle.tt_choice.specs.Branches.{root_choice, child}
use Rattle.tt_choice.specs.Decisions.{choice_after, choice_after_all, IsOpenDecision, AreOpenDecisions, decision_of}
use Rattle.tt_choice.proofs.Root.{IsChoice-root}
use Rattle.tt_choice.proofs.Decisions.{IsChoice-after_all, after_all-more, child_after}
use Rattle.search_trees.specs.Task.{Task, choice_of, task_after, IsTask}

-- the choice of a task is one of the instance
pub task_choice : (i : Instance) (t : Task) → IsInstance i → IsTask i t → IsChoice i (choice_of i t)
task_choice i t w is = IsChoice-after_all i (root_choice i) t.decisions (IsChoice-root i w) is.decisions

-- the decision of a child leads to it
pub choice_after_child : (i : Instance) (t : Task) (kind : Kind) (k : ℕ)
    → choice_of i (task_after t k (decision_of i (choice_of i t) kind k)) ≡ child i (choice_of i t) kind k
choice_after_child i t kind k =
    let d = decision_of i (choice_of i t) kind k in
    after_all-more i (root_choice i) t.decisions d ∙ sym (child_after i (choice_of i t) kind k)

-- each of open decisions is open when its turn comes
pub open_at : (i : Instance) (c : Choice) (ds : List Decision) (k : ℕ) (d : Decision) → AreOpenDecisions i c ds → k < length ds
    → IsOpenDecision i (choice_after_all i c (take k ds)) (slice_index_or ds k d)
open_at i c [] k d are inside = absurd (omega (arith, inside))
open_at i c (first ∷ ds) zero d are inside = are.0
open_at i c (first ∷ ds) (suc k) d are inside = open_at i (choice_after i c first) ds k d are.1 (omega (arith, inside))

-- and leads on
pub after_next : (i : Instance) (c : Choice) (ds : List Decision) (k : ℕ) (d : Decision) → k < length ds
    → choice_after i (choice_after_all i c (take k ds)) (slice_index_or ds k d) ≡ choice_after_all i c (take (k + 1) ds)
after_next i c ds k d inside =
    sym (after_all-more i c (take k ds) (slice_index_or ds k d)) ∙ ap (choice_after_all i c) (sym (take_more ds k d inside))
