-- How the rounds of a plan lie in a period.
use Rattle.std.specs.Prelude.{◌≡◌, ℕ, ◌%◌, Option, None, Some}
use Rattle.ttp_model.specs.declared.plan.Plan.{Plan}
use Rattle.ttp_model.specs.Instance.{Instance}
use Rattle.ttp_model.specs.Slots.{round_length}
use Rattle.plan_cycles.specs.Cycles.{whole_rounds}
use Rattle.plan_cycles.specs.declared.repetition.Near.{Near}
use Rattle.plan_cycles.specs.declared.repetition.Dividing.{Dividing}
use Rattle.plan_cycles.specs.declared.repetition.Repetition.{Repetition}
use Rattle.plan_cycles.specs.Divisors.{Divides, IsGreatestUpTo, IsLeastFrom}
use Rattle.plan_cycles.specs.Fits.{AreFirstFits}

-- the rounds that divide the period and are nearest to one of these ticks
pub record IsNear (period ticks : ℕ) (near : Near) : Type 0 where
  pub shorter : IsGreatestUpTo period ticks near.below
  pub longer : IsLeastFrom period ticks near.above

-- what is told of rounds that divide the period: nothing where the one at hand does
abbrev pub IsDividing : Instance → ℕ → ℕ → Option Dividing → Type 0
IsDividing i period ticks None = Divides ticks period
IsDividing i period ticks (Some d) = (¬ Divides ticks period) × IsNear period ticks d.near × AreFirstFits i period d.fits.items

-- what is told of a plan in a period: its round, how many whole ones there are, what is left behind them, and which would divide it
pub record IsRepetition (i : Instance) (plan : Plan) (ticks : ℕ) (told : Repetition) : Type 0 where
  pub of : told.period ≡ ticks
  pub round : told.round ≡ round_length i.cluster plan.caps
  pub rounds : told.rounds ≡ whole_rounds ticks i plan
  pub gap : told.gap ≡ ticks % round_length i.cluster plan.caps
  pub dividing : IsDividing i ticks (round_length i.cluster plan.caps) told.dividing
