-- What an answer to an instance says: a least plan, no plan, or bounds, each with a tree that proves it.
use Rattle.std.specs.Prelude.{◌≡◌, ℕ, ◌+◌, ◌-◌, ◌≤◌, ◌<◌, min, count_by, Bool, false, Option, None, Some, nat_le, Contains, All}
use Rattle.ttp_model.specs.declared.plan.Plan.{Plan}
use Rattle.ttp_model.specs.Instance.{Instance}
use Rattle.ttp_model.specs.Answers.{Answer, Least, NoPlan, Between, IsTrueOf}
use Rattle.ttp_model.specs.Chains.{IsPathBound}
use Rattle.certificate.specs.declared.node.Node.{Node}
use Rattle.ttp_model.specs.declared.step.Leaf.{Leaf}
use Rattle.certificate.specs.declared.node.Node.TheVariants as node
use Rattle.certificate.specs.Versions.{answer_version}
use Rattle.certificate.specs.Trees.{Trees, preorder}
use Rattle.certificate.specs.Cert.{Cert}
use Rattle.tree_check.specs.Proofs.{Proves}
use Rattle.used_decisions.specs.Branches.{branches}
use Rattle.search_workers.specs.Best.{IsPlanFound}
use Rattle.search_workers.specs.declared.found.FoundPlan.{FoundPlan}
use Rattle.search_workers.specs.declared.outcome.Options.{Options}
use Rattle.search_workers.specs.declared.outcome.Outcome.{Outcome}
use Rattle.search_workers.specs.declared.outcome.Outcome.TheVariants.{Optimal, Infeasible, Stopped}
use Rattle.search_workers.specs.declared.outcome.Why.{Why}
use Rattle.search_workers.specs.declared.outcome.Why.TheVariants.{Budget, Memory, CalledOff, Gap, Part}
use Rattle.search_workers.specs.Searching.{limit_of}
use Rattle.search_workers.specs.Ends.{IsFar, IsNear}
use Rattle.search_workers.specs.Gathering.{HasGoal}

-- a leaf at the limit or past it
abbrev pub is_closed_at : ℕ → Node → Bool
is_closed_at limit (node.Leaf leaf) = nat_le limit leaf.goal
is_closed_at limit _ = false

-- how many of its nodes are branches or leaves at the limit
abbrev pub worked_at : ℕ → Trees → ℕ
worked_at limit tree = branches tree + count_by (is_closed_at limit) (preorder tree)

-- no search with this gap works at a lower goal: that of the best plan is less by the gap at most, and where there is none it is past the horizon
abbrev pub worked_goal : Instance → ℕ → Option FoundPlan → ℕ
worked_goal i gap None = i.cluster.horizon + 1
worked_goal i gap (Some best) = best.delay - gap

-- the best plan found, where there is one, is a settled plan with its delay, which is above the bound
abbrev pub IsBestAbove : Instance → ℕ → Option FoundPlan → Type 0
IsBestAbove i low None = Unit {0}
IsBestAbove i low (Some best) = IsPlanFound i best.plan best.delay × (low < best.delay)

-- the least goal of a tree's leaves
pub record IsLeastGoal (tree : Trees) (low : ℕ) : Type 0 where
  pub leaf : Leaf
  pub there : Contains (preorder tree) (node.Leaf leaf)
  pub reached : leaf.goal ≡ low
  pub bound : All (HasGoal low) (preorder tree)

-- the cause of a stop: by the gap, where the best plan is within it; else by what was worked; a whole search never ends as a part
abbrev pub IsCause : Instance → Options → (gap low : ℕ) → Option FoundPlan → Cert → Why → Type 0
IsCause i options gap low best cert Budget = IsFar gap low best × (options.budget ≤ worked_at (worked_goal i gap best) cert.tree)
IsCause i options gap low best cert Memory = IsFar gap low best × (branches cert.tree < options.budget)
IsCause i options gap low best cert CalledOff = IsFar gap low best × (branches cert.tree < options.budget)
IsCause i options gap low best cert Gap = IsNear gap low best
IsCause i options gap low best cert Part = ⊥

-- the search was stopped with a bound and the best plan found
pub record IsStopped (i : Instance) (options : Options) (gap : ℕ) (why : Why) (low : ℕ) (best : Option FoundPlan) (cert : Cert) : Type 0 where
  pub bound : cert.low ≡ low
  pub least : IsLeastGoal cert.tree low
  pub most : low ≤ i.cluster.horizon
  pub path : (bound : ℕ) → IsPathBound i bound → min bound (limit_of i best) ≤ low
  pub above : IsBestAbove i low best
  pub cause : IsCause i options gap low best cert why

-- the plan is least, there is none, or the search was stopped
abbrev pub Says : Instance → Options → ℕ → Outcome → Type 0
Says i options gap (Optimal plan ticks cert) = IsPlanFound i plan ticks × (cert.low ≡ ticks)
Says i options gap (Infeasible cert) = cert.low ≡ i.cluster.horizon + 1
Says i options gap (Stopped why low best cert) = IsStopped i options gap why low best cert

-- the certificate of an answer
abbrev pub cert_of : Outcome → Cert
cert_of (Optimal plan ticks cert) = cert
cert_of (Infeasible cert) = cert
cert_of (Stopped why low best cert) = cert

-- the plan that an answer has, with its delay, where it has one
abbrev pub best_of : Outcome → Option FoundPlan
best_of (Optimal plan ticks cert) = Some (record { plan = plan; delay = ticks })
best_of (Infeasible cert) = None
best_of (Stopped why low best cert) = best

-- the answer says that the search was called off
abbrev pub IsCalledOff : Outcome → Type 0
IsCalledOff (Optimal plan ticks cert) = ⊥
IsCalledOff (Infeasible cert) = ⊥
IsCalledOff (Stopped why low best cert) = why ≡ CalledOff

-- the answer with this certificate in place of its own; that of a search that was stopped keeps its own
abbrev pub certified_by : Cert → Outcome → Outcome
certified_by cert (Optimal plan ticks own) = Optimal plan ticks cert
certified_by cert (Infeasible own) = Infeasible cert
certified_by cert (Stopped why low best own) = Stopped why low best own

-- a certificate in the version of the instance's answers
abbrev pub in_answer : Instance → Cert → Cert
in_answer i cert = record cert { version = answer_version i }

-- a certificate with this bound
abbrev pub from_low : ℕ → Cert → Cert
from_low low cert = record cert { low = low }

-- An answer: its certificate, in the version of the instance's answers, proves its bound by a tree of at most as many branches
-- as the budget, and the answer says what that bound shows. A subtree may be left that has no plan better than the best one by more than the gap.
pub record IsOutcome (i : Instance) (options : Options) (gap : ℕ) (outcome : Outcome) : Type 0 where
  pub proves : Proves i (cert_of outcome)
  pub version : (cert_of outcome).version ≡ answer_version i
  pub within : branches (cert_of outcome).tree ≤ options.budget
  pub says : Says i options gap outcome

-- the best plan with its delay, where there is one, as an answer states it
abbrev pub stated : Option FoundPlan → Option (Plan × ℕ)
stated None = None
stated (Some best) = Some (best.plan, best.delay)

-- what an answer says to the question for a shortest plan, without what shows it
abbrev pub answer_of : Outcome → Answer
answer_of (Optimal plan ticks cert) = Least plan ticks
answer_of (Infeasible cert) = NoPlan
answer_of (Stopped why low best cert) = Between low (stated best)

-- and what it says is true
abbrev pub Shows : Instance → Outcome → Type 0
Shows i outcome = IsTrueOf i (answer_of outcome)
