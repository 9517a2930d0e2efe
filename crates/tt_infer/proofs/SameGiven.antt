-- A step gives the same where what it reads is the same.
use Rattle.std.proofs.Common.{ℕ, refl}
use Rattle.ttp_model.specs.Instance.{Instance}
use Rattle.ttp_model.specs.declared.step.Step.{Step}
use Rattle.tt_choice.specs.Choice.{Choice}
use Rattle.sought_plans.specs.Known.{Known}
use Rattle.sought_plans.specs.Conclusions.{Conclusion, sharpened}
use Rattle.tt_infer.specs.Table.{IsLawful}
use Rattle.tt_infer.specs.Reads.{AgreeOnReads, Gives}
use Rattle.tt_infer.proofs.Rows.{there_alike, premise_alike, conclusion_alike}

pub gives_alike : (i : Instance) (c : Choice) (goal : ℕ) (f : Known) (d : Choice) (aim : ℕ) (g : Known) (step : Step) (k : Conclusion) → AgreeOnReads i c goal f d aim g step
    → Gives i c goal f step k → Gives i d aim g step k
gives_alike i c goal f d aim g step k agree gives = record {
  there = there_alike i c goal f d aim g step gives.there;
  premise = premise_alike i c goal f d aim g step agree gives.premise;
  concludes = conclusion_alike i c goal f d aim g step k agree gives.concludes;
}

-- so it is lawful there, and sharpens by the same
pub lawful_alike : (i : Instance) (c : Choice) (goal : ℕ) (f : Known) (d : Choice) (aim : ℕ) (g : Known) (step : Step) (next : Known) → AgreeOnReads i c goal f d aim g step → (lawful : IsLawful i c goal f step next) → IsLawful i d aim g step (sharpened i g lawful.conclusion)
lawful_alike i c goal f d aim g step next agree lawful =
    let given = gives_alike i c goal f d aim g step lawful.conclusion agree (record { there = lawful.there; premise = lawful.premise; concludes = lawful.concludes }) in
    record { there = given.there; premise = given.premise; conclusion = lawful.conclusion; concludes = given.concludes; known = refl }
