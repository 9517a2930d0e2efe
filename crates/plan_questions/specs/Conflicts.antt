-- What is told of the constraints of an instance that leave no plan by themselves (conflicts, as of Junker, AAAI 2004). Own profile.
use Rattle.std.specs.Prelude.{◌≡◌, ◌≢◌, ◌⊎◌, ◌↔◌, IsTrue, List, [], map, All, Contains, Bool, true, false}
use Rattle.std.specs.List.{AllPairs}
use Rattle.ttp_model.specs.Instance.{Instance}
use Rattle.certificate.specs.Cert.{Cert}
use Rattle.planner.specs.outcome.Options.{Options}
use Rattle.plan_questions.specs.Searches.{IsPlanOf, IsShown, WasStopped}
use Rattle.instance_variants.specs.declared.kept.constraints.Constraint.{Constraint}
use Rattle.instance_variants.specs.declared.kept.constraints.Constraints.{Constraints}
use Rattle.instance_variants.specs.Constraints.{all_of, keeps, listed, without}
use Rattle.instance_variants.specs.Only.{only}
use Rattle.instance_variants.specs.Fewer.{AreAmong, HasPlan}
use Rattle.plan_questions.specs.declared.conflicts.conflict.Conflict.{Conflict}
use Rattle.plan_questions.specs.declared.conflicts.first.FirstAnswer.{FirstAnswer}
use Rattle.plan_questions.specs.declared.conflicts.first.FirstAnswer.TheVariants as first
use Rattle.plan_questions.specs.declared.conflicts.needs.Need.{Need}

-- a constraint is needed among others: without it there is a valid plan
abbrev pub IsNeeded : Instance → Constraints → Constraint → Type 0
IsNeeded i K c = HasPlan (only i (without K c))

-- it isn't known to be: a search without it, by these constraints or more, was stopped, and had found no plan
pub record IsOpen (i : Instance) (options : Options) (K : Constraints) (c : Constraint) : Type 0 where
  pub more : Constraints
  pub among : AreAmong K more
  pub stopped : WasStopped (only i (without more c)) options

-- an instance has a constraint
abbrev pub IsConstraintOf : Instance → Constraint → Type 0
IsConstraintOf i c = IsTrue (keeps (all_of i) c)

-- two constraints are different
abbrev pub AreApart : Constraint → Constraint → Type 0
AreApart c d = c ≢ d

-- some of an instance's constraints leave no plan by themselves, as the certificate shows, and these of them are needed, each told once
pub record IsConflict (i : Instance) (options : Options) (K : Constraints) (cert : Cert) (found : List Constraint) : Type 0 where
  pub fewer : AreAmong K (all_of i)
  pub shown : IsShown (only i K) options cert
  pub there : All (IsConstraintOf i) found
  pub needed : All (IsNeeded i K) found
  pub once : AllPairs AreApart found

-- a constraint is decided: it was told as needed, or isn't known to be
abbrev pub IsDecided : Instance → Options → Constraints → List Constraint → Constraint → Type 0
IsDecided i options K needed c = Contains needed c ⊎ IsOpen i options K c

-- while more are left out: each that is kept is decided, or is still to be
pub record IsNarrowing (i : Instance) (options : Options) (conflict : Conflict) : Type 0 where
  pub known : IsConflict i options conflict.kept conflict.cert conflict.needed.items
  pub waits : All (IsConstraintOf i) conflict.pending.items
  pub decided : (c : Constraint) → IsTrue (keeps conflict.kept c)
      → Contains conflict.pending.items c ⊎ IsDecided i options conflict.kept conflict.needed.items c

-- what is told of a constraint
abbrev pub IsTold : Instance → Options → Constraints → Bool → Constraint → Type 0
IsTold i options K true c = IsNeeded i K c
IsTold i options K false c = IsOpen i options K c

-- it is told of a constraint just whether it is among those that were told as needed
abbrev pub IsMarked : List Constraint → Need → Type 0
IsMarked needed need = IsTrue need.is_shown ↔ Contains needed need.constraint

-- of each constraint that is kept, in the instance's order, is told whether it is known to be needed
pub record AreMarked (i : Instance) (options : Options) (K : Constraints) (needed : List Constraint) (needs : List Need) : Type 0 where
  pub all : map (λ need. need.constraint) needs ≡ listed K
  pub told : All (λ need. IsTold i options K need.is_shown need.constraint) needs
  pub marked : All (IsMarked needed) needs

-- none is told yet
pub record IsBegun (i : Instance) (options : Options) (conflict : Conflict) : Type 0 where
  pub narrowing : IsNarrowing i options conflict
  pub untold : conflict.needed.items ≡ []

-- a first answer: a valid plan, that all constraints leave none, or that the search was stopped before there was either
abbrev pub IsFirstAnswer : Instance → Options → FirstAnswer → Type 0
IsFirstAnswer i options (first.Plan ticks plan) = IsPlanOf i ticks plan
IsFirstAnswer i options (first.None conflict) = IsBegun i options conflict
IsFirstAnswer i options first.Unknown = WasStopped i options
