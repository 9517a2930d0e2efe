-- What propagation appends to a list of steps, and what it answers.
use Rattle.std.specs.Prelude.{◌≡◌, ℕ, ◌<◌, List, ◌++◌, length, Result, IfOk, IsTrue, IsFalse}
use Rattle.ttp_model.specs.declared.plan.Plan.{Plan}
use Rattle.ttp_model.specs.declared.error.MemoryFault.{MemoryFault}
use Rattle.ttp_model.specs.declared.step.Step.{Step}
use Rattle.ttp_model.specs.Instance.{Instance}
use Rattle.tt_choice.specs.Choice.{Choice}
use Rattle.step_logs.specs.Known.{Known, first_facts}
use Rattle.step_logs.specs.Leaves.{Lead}
pub use Rattle.step_logs.specs.Leaves.{LeadSharply}
pub use Rattle.step_logs.specs.PlansBelow.{IsPlanBelow}
use Rattle.path_bounds.specs.declared.reached.Reached.{Reached}
use Rattle.path_bounds.specs.declared.reached.Reached.TheVariants.{Closed, At}

-- closed exactly where no plan is left; else the facts reached, of that instance, choice and goal
abbrev pub IsReached : Instance → Choice → ℕ → Known → Reached → Type 0
IsReached i c goal g Closed = IsTrue g.closed
IsReached i c goal g (At facts) =
    IsFalse g.closed × (facts ≡ record { instance = i; choice = c; goal = goal; known = g })

-- steps were appended that lead from the first facts on, few enough to be counted, also where memory
-- was refused; the answer says where they lead
pub record Propagates (i : Instance) (c : Choice) (goal : ℕ) (old new : List Step) (answer : Result Reached MemoryFault) : Type 0 where
  pub more : List Step
  pub known : Known
  pub appended : new ≡ old ++ more
  pub lead : Lead i c goal (first_facts i c) more known
  pub sharp : LeadSharply i c goal (first_facts i c) more known
  pub few : length more < 2000000000
  pub reached : IfOk answer (IsReached i c goal known)

-- the answer is that no plan is left
abbrev pub IsClosed : Reached → Type 0
IsClosed Closed = Unit {0}
IsClosed (At facts) = ⊥

-- where plans may be left, there is such a plan
abbrev pub FindsPlan : Instance → Choice → ℕ → Reached → Type 0
FindsPlan i c goal Closed = Unit {0}
FindsPlan i c goal (At facts) = (plan : Plan) × IsPlanBelow i c goal plan
