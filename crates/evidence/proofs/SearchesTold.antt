-- What `solve` writes and tells is right.
use Rattle.std.proofs.Common.{◌≡◌, ℕ, Bool, List, Option, None, Some, inl, inr, subst}
use Rattle.std.specs.Io.KnownBytes.{Keeps}
use Rattle.ttp_model.specs.Instance.{Instance}
use Rattle.planner.specs.outcome.Options.{Options}
use Rattle.planner.specs.outcome.Outcome.{Outcome}
use Rattle.planner.specs.outcome.Outcome.TheVariants as answer
use Rattle.planner.specs.Answers.{cert_of}
use Rattle.command_streams.specs.declared.ending.Sink.TheVariants as sink
use Rattle.command_streams.specs.declared.ending.Fault.TheVariants.{StatedDelay, Unwritten}
use Rattle.command_streams.specs.declared.ending.End.{End}
use Rattle.command_streams.specs.declared.ending.End.TheVariants.{Done, Refused, Stopped}
use Rattle.command_streams.specs.Instances.{HasInstance}
use Rattle.command_streams.specs.Outcomes.{IsWritten}
use Rattle.solve_command.specs.Solved.{IsAnswerText, IsSolveAnswer}
use Rattle.solve_command.specs.Telling.{end_told}
use Rattle.evidence.specs.SearchAnswers.{IsCertificate, StopsWithPlan}

-- the text of an answer that is told as stopped
stopped_text : (bytes : List ℕ) (i : Instance) → HasInstance bytes i → (outcome : Outcome) (text : List ℕ)
    → Stopped ≡ end_told outcome → IsAnswerText None i outcome text → StopsWithPlan bytes text
stopped_text bytes i has (answer.Optimal plan ticks cert) text ends tells = absurd (cc)
stopped_text bytes i has (answer.Infeasible cert) text ends tells = absurd (cc)
stopped_text bytes i has (answer.Stopped why low None cert) text ends tells =
    record { problem = i; has_instance = has; why = why; low = low; is = inl tells }
stopped_text bytes i has (answer.Stopped why low (Some best) cert) text ends tells = record {
  problem = i;
  has_instance = has;
  why = why;
  low = low;
  is = inr (record { plan = best.plan; ticks = best.delay; written = tells.0; spelled = tells.1; text_is = tells.2 });
}

module _ (bytes : List ℕ) (options : Options) (wanted : Bool) (from to old new : Option (List ℕ)) (end : End)
    (told : IsSolveAnswer bytes options (record { until = None; gap = 0 }) ⊥ wanted from to old new end) where
  at : (other : End) → end ≡ other → IsSolveAnswer bytes options (record { until = None; gap = 0 }) ⊥ wanted from to old new other
  at other is = subst (λ e. IsSolveAnswer bytes options (record { until = None; gap = 0 }) ⊥ wanted from to old new e) is told

  pub plan_behind : end ≡ Stopped → IsWritten (StopsWithPlan bytes) old new
  unfolding IsSolveAnswer
  plan_behind stopped = let said = at Stopped stopped in record {
    text = said.text;
    is = rw said.is.text_is (stopped_text bytes said.is.solved.instance said.is.is.has_instance said.is.solved.outcome said.is.solved.text.items said.is.ends said.is.is.tells);
    appends = said.appends;
  }

  pub no_stated_delay : (delay : ℕ) → end ≡ Refused (StatedDelay delay) → ⊥
  unfolding IsSolveAnswer
  no_stated_delay delay is = (at (Refused (StatedDelay delay)) is).0.0

  pub nothing_told : end ≡ Refused (Unwritten sink.Certificate) → Keeps old new
  unfolding IsSolveAnswer
  nothing_told is = (at (Refused (Unwritten sink.Certificate)) is).1

-- a writer that tells its bytes
pub certified : (bytes : List ℕ) (options : Options) (wanted : Bool) (before : List ℕ) (to old new : Option (List ℕ)) (end : End)
    → IsSolveAnswer bytes options (record { until = None; gap = 0 }) ⊥ wanted (Some before) to old new end → end ≡ Done → IsWritten IsCertificate (Some before) to
unfolding IsSolveAnswer
certified bytes options wanted before to old new end told done =
    let said = at bytes options wanted (Some before) to old new end told Done done in
    let written = said.is.certified in
    record { text = written.text; is = record { cert = cert_of said.is.solved.outcome; spelled = written.is }; appends = written.appends }
