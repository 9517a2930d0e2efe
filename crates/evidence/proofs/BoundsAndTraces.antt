-- What `check` and `replay` tell is right to tell.
use Rattle.std.proofs.Common.{◌≡◌, ℕ, List, Option, ap, subst, ◌∙◌}
use Rattle.command_streams.specs.declared.ending.Fault.TheVariants.{WrongLoss}
use Rattle.command_streams.specs.declared.ending.End.{End}
use Rattle.command_streams.specs.declared.ending.End.TheVariants.{Done, Refused}
use Rattle.command_streams.specs.Outcomes.{IsWritten}
use Rattle.plan_commands.specs.Certified.{IsCheckAnswer, bound_line}
use Rattle.plan_commands.specs.Traces.{IsReplayAnswer}
use Rattle.evidence.specs.Tellings.{HasWrongLoss, TellsItsBound, TracesLosses}
use Rattle.evidence.proofs.PlansTold.{plan_of}

pub its_bound : (limit : ℕ) (instance bytes : List ℕ) (old new : Option (List ℕ)) (end : End) → IsCheckAnswer limit instance bytes old new end → end ≡ Done → IsWritten (TellsItsBound instance bytes) old new
its_bound limit instance bytes old new end answer done = let told = subst (λ e. IsCheckAnswer limit instance bytes old new e) done answer in record {
  text = told.text;
  is = record {
    problem = told.is.problem;
    has_instance = told.is.has_instance;
    cert = told.is.has_bound.cert;
    spelled = told.is.has_bound.has_certificate.spelled;
    proves = told.is.has_bound.proves;
    line_is = told.is.line_is ∙ ap bound_line told.is.has_bound.low_is;
  };
  appends = told.appends;
}

module _ (words : List (List ℕ)) (instance bytes : List ℕ) (old new : Option (List ℕ)) (end : End) (answer : IsReplayAnswer words instance bytes old new end) where
  at : (other : End) → end ≡ other → IsReplayAnswer words instance bytes old new other
  at other is = subst (λ e. IsReplayAnswer words instance bytes old new e) is answer

  pub traced : end ≡ Done → IsWritten (TracesLosses words instance bytes) old new
  traced done = let told = at Done done in record {
    text = told.text;
    is = record {
      problem = told.is.verified.instance;
      plan = told.is.verified.plan;
      is = plan_of instance bytes told.is.verified told.is.is;
      losses = told.is.tells.losses;
      spelled = told.is.tells.spelled;
      text_is = told.is.tells.trace.is;
    };
    appends = told.appends;
  }

  pub wrong : (k : ℕ) → end ≡ Refused (WrongLoss k) → HasWrongLoss words instance bytes k
  wrong k is = let why = (at (Refused (WrongLoss k)) is).0 in record {
    problem = why.verified.instance;
    plan = why.verified.plan;
    is = plan_of instance bytes why.verified why.is;
    losses = why.losses;
    spelled = why.spelled;
    there = why.refused.1.within;
    wrong = why.refused.1.fails;
  }
