-- Steps that are read one after another.
use Rattle.std.proofs.Common.{◌≡◌, List, [], ◌∷◌, ◌++◌, refl, sym, subst}
use Rattle.ttp_model.specs.declared.step.Step.{Step}
use Rattle.ttp_model.specs.Instance.{Instance}
use Rattle.used_decisions.specs.Turns.{Path}
use Rattle.used_decisions.specs.declared.given.Given.{Given}
use Rattle.used_decisions.specs.declared.uses.Uses.{Uses}
use Rattle.used_decisions.specs.Uses.{IsMore}
use Rattle.used_decisions.specs.Steps.{AreStepsTold, HasFlags, IsGivenBy, IsReadOf, IsStepRead, IsStepTold, behind}
use Rattle.used_decisions.proofs.Behind.{step_told}
use Rattle.used_decisions.proofs.Tells.{more_none, more_twice, read_more, steps_more}

behind_push : (before steps : List Step) (step : Step) → behind before (steps ++ step ∷ []) ≡ step ∷ behind before steps
behind_push before [] step = refl
behind_push before (one ∷ steps) step = behind_push (one ∷ before) steps step

told_push : (path : Path) (uses : Uses) (before steps : List Step) (step : Step) → AreStepsTold path uses before steps
    → IsStepTold path uses (behind before steps) step → AreStepsTold path uses before (steps ++ step ∷ [])
told_push path uses before [] step told last = (last, tt)
told_push path uses before (one ∷ steps) step told last = (told.0, told_push path uses (one ∷ before) steps step told.1 last)

-- the first steps were read: what they use is marked, and just what they wrote is given
pub record AreRead (path : Path) (old : Uses) (none given : Given) (uses : Uses) (steps : List Step) : Type 0 where
  pub more : IsMore old uses
  pub flags : (i : Instance) → HasFlags i none → HasFlags i given
  pub so : IsGivenBy path.instance none [] → IsGivenBy path.instance given (behind [] steps)
  pub told : IsReadOf path old → IsGivenBy path.instance none [] → AreStepsTold path uses [] steps

pub read_more_steps : (path : Path) (old : Uses) (none given next : Given) (uses new : Uses) (steps : List Step) (step : Step)
    → AreRead path old none given uses steps
    → IsMore uses new → (IsReadOf path uses → IsStepRead path given new step)
    → ((i : Instance) → HasFlags i given → HasFlags i next)
    → (IsGivenBy path.instance given (behind [] steps) → IsGivenBy path.instance next (step ∷ behind [] steps))
    → AreRead path old none next new (steps ++ step ∷ [])
read_more_steps path old none given next uses new steps step are more read flags gives = record {
  more = more_twice old uses new are.more more;
  flags = λ i has. flags i (are.flags i has);
  so = λ nothing. subst (IsGivenBy path.instance next) (sym (behind_push [] steps step)) (gives (are.so nothing));
  told = λ roomy nothing.
      let here : IsReadOf path uses = read_more path old uses are.more roomy in
      let wide : IsReadOf path new = read_more path uses new more here in
      told_push path new [] steps step (steps_more path uses new more [] steps (are.told roomy nothing))
      (step_told path given new (behind [] steps) wide (are.so nothing) step (read here));
}

pub read_first : (path : Path) (old : Uses) (none : Given) → AreRead path old none none old []
read_first path old none = record { more = more_none old; flags = λ i has. has; so = λ nothing. nothing; told = λ roomy nothing. tt }
