-- Each step of the table is sound: what is true of a sought plan stays true of it.
use Rattle.std.proofs.Common.{ℕ}
use Rattle.ttp_model.specs.declared.step.Step.{Step}
use Rattle.ttp_model.specs.Instance.{Instance}
use Rattle.ttp_model.specs.Rules.{IsInstance}
use Rattle.tt_choice.specs.Choice.{Choice, IsChoice}
use Rattle.sought_plans.specs.Known.{Known, Fits, Hold}
use Rattle.tt_infer.specs.Table.{IsLawful}
pub use Rattle.tt_infer.proofs.Rows.{step_is_about, step_is_true}
use Rattle.tt_infer.proofs.Keeps.{AreTrueOf-sharpened, Fits-sharpened}

-- after a lawful step the facts are about the instance
pub Fits-step : (i : Instance) (c : Choice) (goal : ℕ) (f : Known) (step : Step) (g : Known) → Fits i f → IsLawful i c goal f step g → Fits i g
Fits-step i c goal f step g fits lawful = rw lawful.known (Fits-sharpened i f lawful.conclusion fits)

-- and hold, where they held before it
pub Hold-step : (i : Instance) (c : Choice) (goal : ℕ) (f : Known) (step : Step) (g : Known) → IsInstance i → IsChoice i c → Fits i f → IsLawful i c goal f step g → Hold i c goal f → Hold i c goal g
Hold-step i c goal f step g w ok fits lawful holds plan sought =
    let t = holds plan sought in
    let about = step_is_about i c goal f step lawful.conclusion w lawful.there lawful.premise lawful.concludes in
    let is = step_is_true i c goal f plan step w ok sought t lawful.conclusion lawful.there lawful.premise lawful.concludes in
    rw lawful.known (AreTrueOf-sharpened i plan f lawful.conclusion fits t about is)
