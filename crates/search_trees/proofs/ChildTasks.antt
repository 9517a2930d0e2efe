-- Tasks that are made for the children of a branch, one after another.
use Rattle.std.proofs.Common.{◌≡◌, ℕ, ◌+◌, ◌<◌, ◌≤◌, List, [], ◌∷◌, ◌++◌, length, map, map-id, arith, ap, sym, ◌∙◌, zero-add}
use Rattle.std.proofs.lemmas.List.{length-map, length_push, map-append}
use Rattle.std.proofs.lemmas.List.FromFn.{map-range_with_len_more}
use Rattle.ttp_model.specs.declared.limits.TheConstants.{MOST_NODES}
use Rattle.ttp_model.specs.declared.step.Kind.{Kind}
use Rattle.ttp_model.specs.Instance.{Instance}
use Rattle.ttp_model.specs.Rules.{IsInstance}
use Rattle.tt_choice.specs.declared.decision.Decision.{Decision}
use Rattle.tt_choice.specs.Choice.{Choice, IsChoice}
use Rattle.tt_choice.specs.Branches.{IsOpen, children}
use Rattle.tt_choice.specs.Decisions.{decisions_of}
pub use Rattle.tt_choice.proofs.Rows.{few_children}
use Rattle.search_trees.specs.Name.{Name, child_name, child_names}
use Rattle.search_trees.specs.Task.{Task, choice_of, AreChildren}
use Rattle.search_trees.proofs.DecisionLists.{length-decisions_of}

-- a child's number is small
pub small_number : (i : Instance) (c : Choice) (kind : Kind) (decisions : List Decision) (k : ℕ) → IsInstance i → IsChoice i c → IsOpen i c kind
    → decisions ≡ decisions_of i c kind → k < length decisions → k + 1 ≤ MOST_NODES
small_number i c kind decisions k w ok is same inside =
    omega (arith, inside, ap length same, length-decisions_of i c kind, few_children i c kind w ok is)

-- the next name, and the next task's decisions
pub names_more : (name : Name) (tasks after : List Task) (task : Task) (done : List Decision) (next : Decision) → after ≡ tasks ++ task ∷ []
    → task.name ≡ child_name name (length done) → map (λ (t : Task). t.name) tasks ≡ child_names name (length done)
    → map (λ (t : Task). t.name) after ≡ child_names name (length (done ++ next ∷ []))
names_more name tasks after task done next pushed named before =
    let all = ap (map (λ (t : Task). t.name)) pushed ∙ map-append (λ (t : Task). t.name) tasks (task ∷ []) in
    let both : map (λ (t : Task). t.name) tasks ++ task.name ∷ [] ≡ child_names name (length done) ++ child_name name (length done) ∷ [] = cc in
    let more = map-range_with_len_more (child_name name) 0 (length done) (length done) (zero-add (length done)) in
    let longer : child_names name (length (done ++ next ∷ [])) ≡ child_names name (length done + 1) = ap (child_names name) (length_push done next) in
    all ∙ both ∙ sym more ∙ sym longer

-- these decisions, and one more
abbrev pub with_one : List Decision → Decision → List Decision
with_one above d = above ++ d ∷ []

pub decisions_more : (above : List Decision) (tasks after : List Task) (task : Task) (done : List Decision) (next : Decision)
    → after ≡ tasks ++ task ∷ [] → task.decisions ≡ with_one above next → map (λ (t : Task). t.decisions) tasks ≡ map (with_one above) done
    → map (λ (t : Task). t.decisions) after ≡ map (with_one above) (done ++ next ∷ [])
decisions_more above tasks after task done next pushed is before =
    let all = ap (map (λ (t : Task). t.decisions)) pushed ∙ map-append (λ (t : Task). t.decisions) tasks (task ∷ []) in
    let both : map (λ (t : Task). t.decisions) tasks ++ task.decisions ∷ [] ≡ map (with_one above) done ++ with_one above next ∷ [] = cc in
    all ∙ both ∙ sym (map-append (with_one above) done (next ∷ []))

-- all of them
pub all_children : (i : Instance) (t : Task) (kind : Kind) (decisions done : List Decision) (tasks : List Task)
    → decisions ≡ decisions_of i (choice_of i t) kind → map (λ (d : Decision). d) done ≡ decisions
    → map (λ (task : Task). task.name) tasks ≡ child_names t.name (length done)
    → map (λ (task : Task). task.decisions) tasks ≡ map (with_one t.decisions) done → AreChildren i t kind tasks
all_children i t kind decisions done tasks same whole names made =
    let all : done ≡ decisions_of i (choice_of i t) kind = sym (map-id done) ∙ whole ∙ same in
    let count : length done ≡ length tasks = sym (length-map done (with_one t.decisions)) ∙ ap length (sym made)
    ∙ length-map tasks (λ (task : Task). task.decisions) in
    record {
      names = names ∙ ap (child_names t.name) count;
      decisions = made ∙ ap (map (with_one t.decisions)) all;
    }
