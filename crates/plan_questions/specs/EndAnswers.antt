-- What is answered of some processes that are to end early: their least end, or bounds of it, and what shows it. Times are ticks.
use Rattle.std.specs.Prelude.{◌≡◌, ℕ, ◌<◌, ◌≤◌, List, All, Option, None, Some}
use Rattle.ttp_model.specs.declared.plan.Plan.{Plan}
use Rattle.ttp_model.specs.Instance.{Instance}
use Rattle.ttp_model.specs.Plans.{IsValid}
use Rattle.ttp_model.specs.Delays.{delay}
use Rattle.ttp_model.specs.Chains.{ChainEnds}
use Rattle.certificate.specs.Cert.{Cert}
use Rattle.planner.specs.found.FoundPlan.{FoundPlan}
use Rattle.planner.specs.outcome.Options.{Options}
use Rattle.planner.specs.outcome.Outcome.TheVariants as outcome
use Rattle.planner.specs.outcome.Why.{Why}
use Rattle.planner.specs.Answers.{IsOutcome}
use Rattle.plan_questions.specs.Searches.{IsLeftOpen, IsShown}
use Rattle.plan_questions.specs.Cuts.{Cutting, middle}
use Rattle.ttp_model.specs.Limits.{most_ticks}
use Rattle.instance_variants.specs.Cut.{cut}
use Rattle.instance_variants.specs.Ends.{last_end, IsLeastDelayBy, IsLeastEnd, IsLowerEnd}
use Rattle.plan_questions.specs.declared.limits.limit.EndLimit.{EndLimit}
use Rattle.plan_questions.specs.declared.limits.limit.EndLimit.TheVariants.{Least, Reached, Between, Unknown, Infeasible}

-- the certificate of an answer
abbrev pub cert_of : EndLimit → Cert
cert_of (Least end plan cert) = cert
cert_of (Reached end plan cert) = cert
cert_of (Between low high plan cert) = cert
cert_of (Unknown low cert) = cert
cert_of (Infeasible cert) = cert

-- by when these processes had to end in the last search: none where it was of the instance itself
abbrev pub tick_of : EndLimit → Option ℕ
tick_of (Least end plan cert) = Some end
tick_of (Reached end plan cert) = Some end
tick_of (Between low high plan cert) = Some (middle low high)
tick_of (Unknown low cert) = None
tick_of (Infeasible cert) = None

-- the instance with these deadlines cut to a tick, where there is one
abbrev pub cut_to : Instance → List ℕ → Option ℕ → Instance
cut_to i ps None = i
cut_to i ps (Some d) = cut i ps d

-- the instance of the last search, which its certificate is for
abbrev pub searched : Instance → List ℕ → EndLimit → Instance
searched i ps limit = cut_to i ps (tick_of limit)

-- no chain to any of these processes adds up to more
abbrev pub IsBehindChains : Instance → List ℕ → ℕ → Type 0
IsBehindChains i ps low = All (λ p. (time : ℕ) → ChainEnds i p time → time ≤ low) ps

-- the plan is valid, and the last of these processes ends just then
pub record EndsAt (i : Instance) (ps : List ℕ) (plan : Plan) (end : ℕ) : Type 0 where
  pub valid : IsValid i plan
  pub at : last_end i plan ps ≡ end

-- no plan that was found takes fewer ticks
abbrev pub IsNoLonger : ℕ → Option FoundPlan → Type 0
IsNoLonger ticks None = Unit {0}
IsNoLonger ticks (Some best) = ticks ≤ best.delay

-- the instance in which these processes have to end by a tick, plans by when they do, and a tick that they can't end before
abbrev pub end_cutting : Instance → List ℕ → ℕ → Cutting
end_cutting i ps low = record { at = cut i ps; measure = λ plan. last_end i plan ps; least = low; most = most_ticks }

-- The least end, and a plan that does it, of the least delay among those: so said a search with these deadlines cut to that end.
pub record IsLeast (i : Instance) (ps : List ℕ) (options : Options) (end : ℕ) (plan : Plan) (cert : Cert) : Type 0 where
  pub least : IsLeastEnd i ps end
  pub plan_ends : EndsAt i ps plan end
  pub delay_is : IsLeastDelayBy i ps end (delay i plan)
  pub answer : IsOutcome (cut i ps end) options 0 (outcome.Optimal plan (delay i plan) cert)

-- The least end, and a plan that does it; that search was stopped, and found no shorter one.
pub record IsReached (i : Instance) (ps : List ℕ) (options : Options) (end : ℕ) (plan : Plan) (cert : Cert) : Type 0 where
  pub least : IsLeastEnd i ps end
  pub plan_ends : EndsAt i ps plan end
  pub why : Why
  pub low : ℕ
  pub best : Option FoundPlan
  pub answer : IsOutcome (cut i ps end) options 0 (outcome.Stopped why low best cert)
  pub shortest : IsNoLonger (delay i plan) best

-- No valid plan ends them before low, and the plan does at high; a search half way was stopped before it found one.
pub record IsBetween (i : Instance) (ps : List ℕ) (options : Options) (low high : ℕ) (plan : Plan) (cert : Cert) : Type 0 where
  pub lower : IsLowerEnd i ps low
  pub chains : IsBehindChains i ps low
  pub apart : low < high
  pub plan_ends : EndsAt i ps plan high
  pub answer : IsLeftOpen (cut i ps (middle low high)) options cert

-- No valid plan ends them before low; the search for any plan was stopped before it found one.
pub record IsUnknown (i : Instance) (ps : List ℕ) (options : Options) (low : ℕ) (cert : Cert) : Type 0 where
  pub lower : IsLowerEnd i ps low
  pub chains : IsBehindChains i ps low
  pub answer : IsLeftOpen i options cert

-- what is answered; that there is no plan is what the search for any says
abbrev pub IsEndLimit : Instance → List ℕ → Options → EndLimit → Type 0
IsEndLimit i ps options (Least end plan cert) = IsLeast i ps options end plan cert
IsEndLimit i ps options (Reached end plan cert) = IsReached i ps options end plan cert
IsEndLimit i ps options (Between low high plan cert) = IsBetween i ps options low high plan cert
IsEndLimit i ps options (Unknown low cert) = IsUnknown i ps options low cert
IsEndLimit i ps options (Infeasible cert) = IsShown i options cert
