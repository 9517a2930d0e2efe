-- What `judge` tells is right to tell.
use Rattle.std.proofs.Common.{◌≡◌, ◌∙◌, ℕ, List, Option, None, Some, refl, subst}
use Rattle.command_streams.specs.declared.ending.End.{End}
use Rattle.command_streams.specs.declared.ending.End.TheVariants.{Done, Absent, Stopped}
use Rattle.command_streams.specs.Outcomes.{IsWritten}
use Rattle.plan_commands.specs.declared.judge.Judgement.{Judgement}
use Rattle.plan_commands.specs.declared.judge.Judgement.TheVariants.{Least, NoPlan, Between}
use Rattle.plan_commands.specs.Judged.{IsJudgeAnswer, IsJudged, end_of, judgement_line}
use Rattle.plan_commands.proofs.Judgements.{least_said, none_said, between_said}
use Rattle.evidence.specs.Judgements.{StatesNoPlan, TellsBounds, TellsLeast, bounds_line}

line_of : (low : ℕ) (best : Option ℕ) → judgement_line (Between low best) ≡ bounds_line low best
line_of low None = refl
line_of low (Some ticks) = refl

module _ (limit : ℕ) (instance plan certificate : List ℕ) where
  least_of : (judgement : Judgement) (line : List ℕ) → IsJudged limit instance plan certificate judgement → Done ≡ end_of judgement → line ≡ judgement_line judgement → TellsLeast instance line
  least_of (Least d) line is ends line_is = let said = least_said limit instance plan certificate d is in record { problem = said.0; has_instance = said.1; ticks = d; least = said.2; line_is = line_is }
  least_of NoPlan line is ends line_is = absurd (cc)
  least_of (Between low best) line is ends line_is = absurd (cc)

  none_of : (judgement : Judgement) → IsJudged limit instance plan certificate judgement → Absent ≡ end_of judgement → StatesNoPlan instance
  none_of (Least d) is ends = absurd (cc)
  none_of NoPlan is ends = let said = none_said limit instance plan certificate is in record { problem = said.0; has_instance = said.1; none = said.2 }
  none_of (Between low best) is ends = absurd (cc)

  bounds_of : (judgement : Judgement) (line : List ℕ) → IsJudged limit instance plan certificate judgement → Stopped ≡ end_of judgement → line ≡ judgement_line judgement → TellsBounds instance line
  bounds_of (Least d) line is ends line_is = absurd (cc)
  bounds_of NoPlan line is ends line_is = absurd (cc)
  bounds_of (Between low best) line is ends line_is = let said = between_said limit instance plan certificate low best is in record {
    problem = said.0;
    has_instance = said.1;
    low = low;
    best = best;
    bound = said.2;
    below = said.3;
    reached = said.4;
    line_is = line_is ∙ line_of low best;
  }

  module _ (old new : Option (List ℕ)) (end : End) (answer : IsJudgeAnswer limit instance plan certificate old new end) where
    pub least_told : end ≡ Done → IsWritten (TellsLeast instance) old new
    least_told done = let told = subst (λ e. IsJudgeAnswer limit instance plan certificate old new e) done answer in
        record { text = told.text; is = least_of told.is.judgement told.text told.is.is told.is.ends told.is.text_is; appends = told.appends }

    pub none_told : end ≡ Absent → StatesNoPlan instance
    none_told absent = let told = subst (λ e. IsJudgeAnswer limit instance plan certificate old new e) absent answer in
        none_of told.is.judgement told.is.is told.is.ends

    pub bounds_told : end ≡ Stopped → IsWritten (TellsBounds instance) old new
    bounds_told stopped = let told = subst (λ e. IsJudgeAnswer limit instance plan certificate old new e) stopped answer in
        record { text = told.text; is = bounds_of told.is.judgement told.text told.is.is told.is.ends told.is.text_is; appends = told.appends }
