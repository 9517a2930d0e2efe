-- What a propagation that leaves plans says.
use Rattle.std.proofs.Common.{◌≡◌, ℕ, ◌≤◌, List, ap, subst, inl, inr, Result, Ok, IfOk}
use Rattle.std.proofs.lemmas.Bool.{cases_lt}
use Rattle.ttp_model.specs.declared.error.MemoryFault.{MemoryFault}
use Rattle.ttp_model.specs.declared.step.Step.{Step}
use Rattle.ttp_model.specs.Instance.{Instance}
use Rattle.ttp_model.specs.Chains.{IsPathBound}
use Rattle.tt_choice.specs.Choice.{Choice, IsComplete}
use Rattle.path_bounds.specs.Facts.{Facts}
use Rattle.path_bounds.specs.declared.reached.Reached.{Reached}
use Rattle.path_bounds.specs.declared.reached.Reached.TheVariants.{At}
use Rattle.path_bounds.specs.Propagation.{Propagates, IsReached, IsClosed, FindsPlan}
use Rattle.search_trees.specs.Trials.{IsLeft}

pub left_from : (i : Instance) (c : Choice) (goal : ℕ) (old new : List Step) (answer : Result Reached MemoryFault) (facts : Facts)
    → Propagates i c goal old new answer → ((bound : ℕ) → IsPathBound i bound → goal ≤ bound → IfOk answer IsClosed)
    → (IsComplete i c → IfOk answer (FindsPlan i c goal)) → answer ≡ Ok (At facts) → IsLeft i c goal facts
left_from i c goal old new answer facts p within complete is = record {
  of =
      let reached : IsReached i c goal p.known (At facts) = subst (λ (a : Result Reached MemoryFault). IfOk a (IsReached i c goal p.known)) is p.reached in
      ap (λ (f : Facts). f.instance) reached.1;
  above = λ bound is_bound. elim (cases_lt bound goal) [
    | inl below ↦ below
    | inr not_below ↦ absurd (subst (λ (a : Result Reached MemoryFault). IfOk a IsClosed) is (within bound is_bound not_below))
  ];
  finds = λ all. subst (λ (a : Result Reached MemoryFault). IfOk a (FindsPlan i c goal)) is (complete all);
}
