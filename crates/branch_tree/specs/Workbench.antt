-- What is kept between two tasks, and how far it goes towards the next one. Own profile.
use Rattle.std.specs.Prelude.{◌≡◌, ℕ, ◌<◌, List, length, take, IfSome, IsTrue}
use Rattle.ttp_model.specs.Instance.{Instance}
use Rattle.tt_choice.specs.declared.decision.Decision.{Decision}
use Rattle.search_trees.specs.Propagator.{Propagator}
use Rattle.branch_tree.specs.declared.workbench.Workbench.{Workbench}

-- what is kept, if anything, is a propagation of this instance
abbrev pub IsWorkbenchOf : Instance → Workbench → Type 0
IsWorkbenchOf i bench = IfSome bench.kept (λ (p : Propagator). p.instance ≡ i)

-- a propagation of the instance at this goal in ticks
pub record IsAt (i : Instance) (goal : ℕ) (p : Propagator) : Type 0 where
  pub instance : p.instance ≡ i
  pub goal_is : p.goal ≡ goal

-- It has made the first of these decisions: all of them, or until no plan was left.
pub record ComesTo (i : Instance) (goal : ℕ) (decisions : List Decision) (p : Propagator) : Type 0 where
  pub at : IsAt i goal p
  pub first : p.decisions ≡ take (length p.decisions) decisions
  pub as_far : length p.decisions < length decisions → IsTrue p.current.facts.known.closed
