-- A plan that is valid where processes run longer is valid where they run less longer, and where they run as long as they did.
use Rattle.std.proofs.Common.{ℕ, ◌<◌, ◌≤◌, length, arith, List}
use Rattle.ttp_model.specs.declared.plan.Plan.{Plan}
use Rattle.ttp_model.specs.Instance.{Instance, process_at}
use Rattle.ttp_model.specs.Plans.{IsValid}
use Rattle.ttp_model.specs.Delays.{HasNoPlan}
use Rattle.instance_variants.specs.declared.scale.Scale.{Scale}
use Rattle.instance_variants.specs.Cut.{is_one_of}
use Rattle.instance_variants.specs.Grown.{grown}
use Rattle.instance_variants.specs.Longer.{longer, longer_by}
use Rattle.instance_variants.proofs.Varied.{both_differ, turned}
use Rattle.instance_variants.proofs.VariedPlans.{valid_across}
use Rattle.instance_variants.proofs.GrownProcesses.{count, deadline_kept, differ, end_is, release_kept, wcet_is}
use Rattle.instance_variants.proofs.Scales.{longer-mono}

module _ (i : Instance) (plan : Plan) (more : ℕ → ℕ) (v : IsValid (grown i more) plan) where
  was_there : (p : ℕ) → p < length i.processes → p < length (grown i more).processes
  was_there p inside = omega (arith, inside, count i more)

  is_there : (p : ℕ) → p < length (grown i more).processes → p < length i.processes
  is_there p there = omega (arith, there, count i more)

  pub own_valid : IsValid i plan
  own_valid = valid_across (grown i more) i.cluster.horizon i.processes (turned _ _ (differ i more)) plan v
      (λ p there. omega (arith, wcet_is i more p (is_there p there)))
      (λ p inside. omega (arith, v.released p (was_there p inside), release_kept i more p inside))
      (λ p inside.
      let ends = v.in_time p (was_there p inside) in
      (omega (arith, ends.0, end_is i more plan p inside, deadline_kept i more p inside), omega (arith, ends.1, end_is i more plan p inside)))

  module _ (less : ℕ → ℕ) (fewer : (p : ℕ) → p < length i.processes → less p ≤ more p) where
    still : (p : ℕ) → p < length (grown i less).processes → p < length i.processes
    still p there = omega (arith, there, count i less)

    pub shorter_valid : IsValid (grown i less) plan
    shorter_valid =
        let other = both_differ (grown i more).processes i.processes (grown i less).processes (turned _ _ (differ i more)) (differ i less) in
        valid_across (grown i more) i.cluster.horizon (grown i less).processes other plan v
        (λ p there. let inside = is_there p there in omega (arith, wcet_is i more p inside, wcet_is i less p inside, fewer p inside))
        (λ p there.
        let inside = still p there in
        omega (arith, v.released p (was_there p inside), release_kept i more p inside, release_kept i less p inside))
        (λ p there.
        let inside = still p there in
        let ends = v.in_time p (was_there p inside) in
        let old = end_is i more plan p inside in
        let new = end_is i less plan p inside in (
          omega (arith, ends.0, old, new, fewer p inside, deadline_kept i more p inside, deadline_kept i less p inside),
          omega (arith, ends.1, old, new, fewer p inside),
        ))

module _ (i : Instance) (ps : List ℕ) (scale : Scale) (x y : ℕ) (le : x ≤ y) where
  pub fewer_valid : (plan : Plan) → IsValid (longer i ps scale y) plan → IsValid (longer i ps scale x) plan
  fewer_valid plan v = shorter_valid i plan (longer_by i ps scale y) v (longer_by i ps scale x)
      (λ p inside. longer-mono (is_one_of ps p) scale x y (process_at i p).wcet le)

  pub none_with_more : HasNoPlan (longer i ps scale x) → HasNoPlan (longer i ps scale y)
  none_with_more none plan v = none plan (fewer_valid plan v)
