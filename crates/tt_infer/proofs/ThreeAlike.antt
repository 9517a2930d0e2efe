-- Four steps on the worked example with three processes of one node: they close the root choice at 6, and not at 7.
use Rattle.std.proofs.Common.{◌≡◌, ℕ, ◌-◌, ◌<◌, min, List, [], ◌∷◌, arith, refl, lit<}
use Rattle.ttp_model.specs.declared.step.Step.{Step}
use Rattle.ttp_model.specs.declared.step.Step.TheVariants.{LeOwn, XLoad}
use Rattle.ttp_model.specs.Instance.{process_at}
use Rattle.ttp_model.specs.Worked.{three_alike}
use Rattle.ttp_model.specs.Totals.{total}
use Rattle.tt_choice.specs.Branches.{root_choice}
use Rattle.sought_plans.specs.Known.{Known, first_facts}
use Rattle.sought_plans.specs.Conclusions.{EndsUntil, NothingLeft, sharpened}
use Rattle.sought_plans.specs.Premises.{load_within}
use Rattle.tt_infer.specs.Table.{IsLawful}
use Rattle.tt_infer.specs.Leaves.{Lead, ClosesLeaf}
use Rattle.tt_infer.proofs.Determined.{Lead-determined}
use Rattle.tt_infer.proofs.Leaves.{Lead-append, Lead-split}

-- all end a tick below the goal
ended : ℕ → ℕ → Known → Known
ended goal p f = sharpened three_alike f (EndsUntil p (min (min (process_at three_alike p).deadline 100) (goal - 1)))

at_first : Known
at_first = first_facts three_alike (root_choice three_alike)

a_ended : ℕ → Known
a_ended goal = ended goal 0 at_first

b_ended : ℕ → Known
b_ended goal = ended goal 1 (a_ended goal)

c_ended : ℕ → Known
c_ended goal = ended goal 2 (b_ended goal)

three_steps : List Step
three_steps = LeOwn 0 ∷ LeOwn 1 ∷ LeOwn 2 ∷ []

process_ends : (goal p : ℕ) (f : Known) → p < 3 → IsLawful three_alike (root_choice three_alike) goal f (LeOwn p) (ended goal p f)
unfolding ended
process_ends goal p f there = record { there = there; premise = tt; conclusion = EndsUntil p (min (min (process_at three_alike p).deadline 100) (goal - 1)); concludes = refl; known = refl }

lead : (goal : ℕ) → Lead three_alike (root_choice three_alike) goal at_first three_steps (c_ended goal)
unfolding ended at_first a_ended b_ended c_ended three_steps
lead goal = (refl, (a_ended goal, process_ends goal 0 at_first (lit< tt), (refl, (b_ended goal, process_ends goal 1 (a_ended goal) (lit< tt), (refl, (c_ended goal, process_ends goal 2 (b_ended goal) (lit< tt), refl))))))

-- at 6 they have five ticks for six
closed : Known
closed = sharpened three_alike (c_ended 6) NothingLeft

load_closes : IsLawful three_alike (root_choice three_alike) 6 (c_ended 6) (XLoad 0 0 5) closed
unfolding ended at_first a_ended b_ended c_ended closed
load_closes = record { there = lit< tt; premise = record { span = omega arith; load = lit< tt }; conclusion = NothingLeft; concludes = refl; known = refl }

pub closes_at_6 : ClosesLeaf three_alike (root_choice three_alike) (record { goal = 6; steps = LeOwn 0 ∷ LeOwn 1 ∷ LeOwn 2 ∷ XLoad 0 0 5 ∷ [] })
unfolding ended at_first a_ended b_ended c_ended three_steps closed
closes_at_6 =
    let last : Lead three_alike (root_choice three_alike) 6 (c_ended 6) (XLoad 0 0 5 ∷ []) closed = (refl, (closed, load_closes, refl)) in
    (closed, Lead-append three_alike (root_choice three_alike) 6 at_first three_steps (XLoad 0 0 5 ∷ []) (c_ended 6) closed (lead 6) last, refl)

-- at 7 they aren't known to end by 5
pub open_at_7 : ¬ ClosesLeaf three_alike (root_choice three_alike) (record { goal = 7; steps = LeOwn 0 ∷ LeOwn 1 ∷ LeOwn 2 ∷ XLoad 0 0 5 ∷ [] })
unfolding ended at_first a_ended b_ended c_ended three_steps
open_at_7 closes =
    let cut = Lead-split three_alike (root_choice three_alike) 7 at_first three_steps (XLoad 0 0 5 ∷ []) closes.0 closes.1 in
    let same : cut.0 ≡ c_ended 7 = Lead-determined three_alike (root_choice three_alike) 7 at_first three_steps cut.0 (c_ended 7) cut.1 (lead 7) in
    let load : 5 - 0 < total (load_within three_alike (c_ended 7) 0 0 5) 3 = rw same at cut.2.1.1.premise.load in
    omega (arith, load)
