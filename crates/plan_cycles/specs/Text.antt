-- The text of how the rounds of a plan lie in a period. Own profile.
use Rattle.std.specs.Prelude.{◌≡◌, ℕ, List, [], ◌++◌, Option, None, Some, codes, decimal}
use Rattle.std.specs.List.{flat_map}
use Rattle.ttp_model.specs.declared.plan.Plan.{Plan}
use Rattle.ttp_model.specs.Instance.{Instance}
use Rattle.plan_cycles.specs.declared.fits.Fit.{Fit}
use Rattle.plan_cycles.specs.declared.repetition.Near.{Near}
use Rattle.plan_cycles.specs.declared.repetition.Dividing.{Dividing}
use Rattle.plan_cycles.specs.declared.repetition.Repetition.{Repetition}
use Rattle.plan_cycles.specs.Repetition.{IsRepetition}

-- the period, the round, how many whole ones there are, and the gap behind them
unfoldable pub head_text : Repetition → List ℕ
head_text told =
    codes "ttperiod 1\nperiod " ++ (decimal told.period ++ (codes "\nround " ++ (decimal told.round ++ (codes "\nrounds " ++ (decimal told.rounds ++ (codes "\ngap " ++ (decimal told.gap ++ codes "\n")))))))

-- the nearest rounds that divide the period
unfoldable pub near_line : Near → List ℕ
near_line near = codes "near " ++ (decimal near.below ++ (codes " " ++ (decimal near.above ++ codes "\n")))

-- a trail and a round that fit
unfoldable pub fit_line : Fit → List ℕ
fit_line fit = codes "fit " ++ (decimal fit.trail ++ (codes " " ++ (decimal fit.round ++ codes "\n")))

-- these lines, where the round leaves a gap
abbrev pub dividing_text : Option Dividing → List ℕ
dividing_text None = []
dividing_text (Some d) = near_line d.near ++ flat_map fit_line d.fits.items

-- all of it
abbrev pub repetition_text : Repetition → List ℕ
repetition_text told = head_text told ++ dividing_text told.dividing

-- the text of a plan in a period of these ticks
pub record IsPeriodText (ticks : ℕ) (i : Instance) (plan : Plan) (text : List ℕ) : Type 0 where
  pub told : Repetition
  pub is : IsRepetition i plan ticks told
  pub spelled : text ≡ repetition_text told
