use Rattle.std.proofs.Common.{[], ◌∷◌, refl}
use Rattle.plan_sheets.proofs.Steps.{steps_by_test}
use Rattle.plan_sheets.proofs.pictures.scale.step_of.Goals as goal

pub first_wide-requires-clause-some : goal.first_wide-requires-clause-some
first_wide-requires-clause-some c =
    steps_by_test (1 ∷ 2 ∷ 5 ∷ 10 ∷ 20 ∷ 50 ∷ 100 ∷ 200 ∷ 500 ∷ 1000 ∷ 2000 ∷ 5000 ∷ 10000 ∷ 20000 ∷ 50000 ∷ 100000 ∷ 200000 ∷ 500000 ∷ 1000000 ∷ 2000000 ∷ 5000000 ∷ 10000000 ∷ 20000000 ∷ 50000000 ∷ []) refl
