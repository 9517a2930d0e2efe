-- A step that is taken or refused keeps all that is known true.
use Rattle.std.proofs.Common.{Result, Ok, Err, IsTrue}
use Rattle.std.proofs.lemmas.Bool.{both_ways}
use Rattle.ttp_model.specs.declared.plan.Plan.{Plan}
use Rattle.ttp_model.specs.declared.step.Step.{Step}
use Rattle.tt_infer.specs.declared.fault.StepFault.{StepFault}
use Rattle.sought_plans.specs.Known.{Known, IsSought}
use Rattle.tt_infer.specs.Answers.{Takes}
use Rattle.tt_infer.specs.Facts.{Facts, AreFacts, after}
use Rattle.tt_infer.proofs.Sound.{Fits-step, Hold-step}

pub keeps_all : (s : Facts) (step : Step) (g : Known) (result : Result Unit StepFault) → AreFacts s → Takes s.instance s.choice s.goal s.known step g result → AreFacts (after s g)
keeps_all s step g (Ok done) h taken = record {
  instance = h.instance;
  choice = h.choice;
  fits = Fits-step s.instance s.choice s.goal s.known step g h.fits taken.1;
  holds = Hold-step s.instance s.choice s.goal s.known step g h.instance h.choice h.fits taken.1 h.holds;
}
keeps_all s step g (Err fault) h refused = rw refused.1 h

-- where no plan is left, none is sought
pub none_is_left : (s : Facts) → AreFacts s → IsTrue s.known.closed → (plan : Plan) → ¬ IsSought s.instance s.choice s.goal plan
none_is_left s h closed plan sought = both_ways _ (h.holds plan sought).some_left closed
