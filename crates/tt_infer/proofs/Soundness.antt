-- When a rule is sound for a plan.
use Rattle.std.proofs.Common.{ℕ}
use Rattle.ttp_model.specs.declared.plan.Plan.{Plan}
use Rattle.ttp_model.specs.declared.step.Step.{Step}
use Rattle.ttp_model.specs.Instance.{Instance}
use Rattle.tt_choice.specs.Choice.{Choice}
use Rattle.sought_plans.specs.Known.{Known}
use Rattle.sought_plans.specs.Conclusions.{Conclusion, IsTrueOf}
use Rattle.tt_infer.specs.Table.{rule}

-- where what the step names is there and its premise holds, all that it concludes is true of the plan
abbrev pub IsSoundFor : Instance → Choice → ℕ → Known → Plan → Step → Type 0
IsSoundFor i c goal f plan step =
    (k : Conclusion) → (rule i c goal f step).there → (rule i c goal f step).premise → (rule i c goal f step).concludes k → IsTrueOf i plan k
