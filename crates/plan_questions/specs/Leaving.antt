-- What a search says of constraints that are to be left out, and how much is left to do. Only private contracts ask for the first.
use Rattle.std.specs.Prelude.{◌≡◌, ℕ, ◌+◌, ◌-◌, ◌*◌, ◌^◌, min, List, [], ◌∷◌, ◌++◌, length, Option, None, Some, Contains}
use Rattle.ttp_model.specs.Instance.{Instance}
use Rattle.planner.specs.outcome.Options.{Options}
use Rattle.plan_questions.specs.Searches.{IsShown, WasStopped}
use Rattle.instance_variants.specs.declared.kept.constraints.Constraint.{Constraint}
use Rattle.instance_variants.specs.Constraints.{without_all}
use Rattle.instance_variants.specs.Only.{only}
use Rattle.instance_variants.specs.Fewer.{HasPlan}
use Rattle.plan_questions.specs.declared.conflicts.conflict.Conflict.{Conflict}
use Rattle.plan_questions.specs.declared.conflicts.leaving.Without.{Without}
use Rattle.plan_questions.specs.declared.conflicts.leaving.Without.TheVariants.{NoPlan, SomePlan, Unknown}

-- these constraints are left out, as a search says, and all else that is known stays
pub record AreLeftOut (i : Instance) (options : Options) (old : Conflict) (part : List Constraint) (new : Conflict) : Type 0 where
  pub kept : new.kept ≡ without_all old.kept part
  pub shown : IsShown (only i new.kept) options new.cert
  pub needed : new.needed ≡ old.needed
  pub pending : new.pending ≡ old.pending

-- constraints are left out; or nothing is, since there is a plan without them, or a search for one was stopped
abbrev pub LeavesOut : Instance → Options → Conflict → List Constraint → Conflict → Without → Type 0
LeavesOut i options old part new NoPlan = AreLeftOut i options old part new
LeavesOut i options old part new SomePlan = (new ≡ old) × HasPlan (only i (without_all old.kept part))
LeavesOut i options old part new Unknown = (new ≡ old) × WasStopped (only i (without_all old.kept part)) options

-- a constraint is told that wasn't before
pub record IsToldNow (old : Conflict) (c : Constraint) (new : Conflict) : Type 0 where
  pub kept : new.kept ≡ old.kept
  pub cert : new.cert ≡ old.cert
  pub pending : new.pending ≡ old.pending
  pub stride : new.stride ≡ old.stride
  pub needed : new.needed.items ≡ old.needed.items ++ c ∷ []
  pub other : ¬ Contains old.needed.items c

-- a constraint is told, or was before
abbrev pub IsTolder : Conflict → Constraint → Conflict → Option Constraint → Type 0
IsTolder old c new None = (new ≡ old) × Contains old.needed.items c
IsTolder old c new (Some found) = IsToldNow old c new × (found ≡ c)

-- how much is left to do: less after each search
abbrev pub left_to_do : Conflict → ℕ
left_to_do conflict = 2 ^ 64 * length conflict.pending.items + min conflict.stride (2 ^ 64 - 1)
