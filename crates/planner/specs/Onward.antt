-- What an answer says to who goes on from a certificate, and why there is none.
use Rattle.std.specs.Prelude.{◌≡◌, ◌⊎◌, ℕ, ◌+◌, ◌-◌, ◌^◌, ◌<◌, ◌≤◌, List, [], ◌∷◌, Option, None, Some, IfSome, count_by, filter, min}
use Rattle.ttp_model.specs.declared.plan.Plan.{Plan}
use Rattle.ttp_model.specs.Instance.{Instance}
use Rattle.ttp_model.specs.Delays.{delay}
use Rattle.certificate.specs.declared.node.Node.{Node}
use Rattle.certificate.specs.Cert.{Cert}
use Rattle.certificate.specs.Trees.{preorder}
use Rattle.certificate.specs.Versions.{answer_version}
use Rattle.planner.specs.Begun.{is_open, stays, IsTooDeep}
use Rattle.planner.specs.Parts.{others_of, IsPortion}
use Rattle.search_workers.specs.Searching.{aim_of, limit_of, IsFound}
use Rattle.search_workers.specs.declared.aims.Aims.{Aims}
use Rattle.planner.specs.declared.fault.BeginFault.{BeginFault}
use Rattle.planner.specs.declared.fault.BeginFault.TheVariants as begin
use Rattle.planner.specs.declared.parts.Portion.{Portion}
use Rattle.search_workers.specs.declared.found.FoundPlan.{FoundPlan}
use Rattle.search_workers.specs.declared.outcome.Options.{Options}
use Rattle.search_workers.specs.declared.outcome.Outcome.{Outcome}
use Rattle.search_workers.specs.declared.outcome.Outcome.TheVariants.{Optimal, Infeasible, Stopped}
use Rattle.search_workers.specs.declared.outcome.SolveFault.TheVariants.{Memory}
use Rattle.tree_check.specs.Proofs.{Proves}
use Rattle.search_workers.specs.declared.outcome.Why.{Why}
use Rattle.side_by_side.specs.Joined.{IsJoinedTree}
use Rattle.planner.specs.Answers.{best_of, cert_of, IsOutcome}
use Rattle.planner.specs.PartAnswers.{IsPartOutcome}
use Rattle.planner.specs.Searched.{IsEndAnswer}
use Rattle.planner.specs.declared.onward.OnFault.{OnFault}
use Rattle.planner.specs.declared.onward.OnFault.TheVariants.{TooDeep, Search}

-- a part, where one is asked for, has a number below how many there are
abbrev pub IsSomePart : Option Portion → Type 0
IsSomePart part = IfSome part IsPortion

-- the same with a budget of so many subtrees more, as far as 64 bits go
abbrev pub further : Options → ℕ → Options
further options made = record options { budget = min (options.budget + made) (2 ^ 64 - 1) }

-- the answer of a whole search, or of a part, which leaves to others those of these leaves that aren't its own
abbrev pub IsOwn : Instance → Options → ℕ → List Node → Option Portion → Outcome → Type 0
IsOwn i options gap leaves None outcome = IsOutcome i options gap outcome
IsOwn i options gap leaves (Some part) outcome = IsPartOutcome i options gap (others_of part 0 leaves) outcome

-- the bound that an answer tells
abbrev pub told_low : Instance → Outcome → ℕ
told_low i (Optimal plan ticks cert) = ticks
told_low i (Infeasible cert) = i.cluster.horizon + 1
told_low i (Stopped why low best cert) = low

-- an answer's certificate proves the bound that it tells, and its plan is settled and has its delay
pub record IsProved (i : Instance) (outcome : Outcome) : Type 0 where
  pub proves : Proves i (cert_of outcome)
  pub found : IsFound i (best_of outcome)
  pub bound : (cert_of outcome).low ≡ told_low i outcome

-- Where the bound of a search that was stopped is below that of the certificate, both trees are joined, and this is what the joined one says.
pub record IsRaised (i : Instance) (gap : ℕ) (cert : Cert) (own outcome : Outcome) : Type 0 where
  pub why : Why
  pub low : ℕ
  pub best : Option FoundPlan
  pub lower : Cert
  pub stopped : own ≡ Stopped why low best lower
  pub below : low < cert.low
  pub joined : Cert
  pub tree : IsJoinedTree i (lower ∷ cert ∷ []) joined.tree
  pub proves : Proves i joined
  pub version : joined.version ≡ answer_version i
  pub says : IsEndAnswer i gap why best joined outcome

-- The answer of a search that goes on from a certificate: it begins with a plan that takes no longer than the one that is known, where one is, and its budget
-- is of subtrees beside the certificate's nodes that stay.
pub record IsOnward (i : Instance) (options : Options) (gap : ℕ) (start : Option Plan) (cert : Cert) (part : Option Portion) (outcome : Outcome)
    : Type 0 where
  pub aims : Aims
  pub gap_is : aims.gap ≡ gap
  pub first : Option FoundPlan
  pub found : IsFound i first
  pub no_later : IfSome start (λ plan. limit_of i first ≤ delay i plan)
  pub made : ℕ
  pub made_is : made ≡ count_by (stays (aim_of i aims first)) (preorder cert.tree)
  pub own : Outcome
  pub answer : IsOwn i (further options made) gap (filter (is_open (aim_of i aims first)) (preorder cert.tree)) part own
  pub told : (outcome ≡ own) ⊎ IsRaised i gap cert own outcome

-- what is told of a search that can't begin
abbrev pub on_fault : BeginFault → OnFault
on_fault (begin.TooDeep line) = TooDeep line
on_fault begin.OutOfMemory = Search Memory

-- a branch is too deep; nothing is said of a want of memory or of a thread
abbrev pub IsOnFault : Instance → Cert → OnFault → Type 0
IsOnFault i cert (TooDeep line) = IsTooDeep i cert line
IsOnFault i cert (Search fault) = Unit {0}
