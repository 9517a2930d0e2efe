-- A plan is valid with deadlines cut exactly where it is valid and these processes end in time.
use Rattle.std.proofs.Common.{◌≡◌, ◌≤◌, ℕ, ◌<◌, List, length, slice_index_or, arith}
use Rattle.ttp_model.specs.declared.plan.Plan.{Plan}
use Rattle.ttp_model.specs.Instance.{Instance, process_at}
use Rattle.ttp_model.specs.Plans.{IsValid, end_of}
use Rattle.instance_variants.specs.Cut.{cut, is_one_of}
use Rattle.instance_variants.specs.Ends.{AreThere, EndBy}
use Rattle.instance_variants.proofs.Varied.{end_same, turned}
use Rattle.instance_variants.proofs.VariedPlans.{valid_across}
use Rattle.instance_variants.proofs.OneOf.{of_each, one_of_place}
use Rattle.instance_variants.proofs.CutProcesses.{cut-le, cut-true, deadline_is, differ, le-cut, release_kept, wcet_kept}

module _ (i : Instance) (ps : List ℕ) (d : ℕ) (plan : Plan) where
  pub end_kept : (p : ℕ) → end_of (cut i ps d) plan p ≡ end_of i plan p
  end_kept = end_same i i.cluster.horizon (cut i ps d).processes (differ i ps d) (wcet_kept i ps d) plan

  inside_old : (p : ℕ) → p < length (cut i ps d).processes → p < length i.processes
  inside_old p there = omega (arith, there, (differ i ps d).all)

  inside_new : (p : ℕ) → p < length i.processes → p < length (cut i ps d).processes
  inside_new p inside = omega (arith, inside, (differ i ps d).all)

  pub valid_of_cut : IsValid (cut i ps d) plan → IsValid i plan
  valid_of_cut v = valid_across (cut i ps d) i.cluster.horizon i.processes (turned _ _ (differ i ps d)) plan v
      (λ p there. omega (arith, wcet_kept i ps d p (inside_old p there)))
      (λ p inside. omega (arith, v.released p (inside_new p inside), release_kept i ps d p inside))
      (λ p inside.
      let ends = v.in_time p (inside_new p inside) in
      (omega (arith, ends.0, end_kept p, deadline_is i ps d p inside, cut-le (is_one_of ps p) (process_at i p).deadline d), omega (arith, ends.1, end_kept p)))

  pub end_by_of_cut : AreThere i ps → IsValid (cut i ps d) plan → EndBy i ps plan d
  end_by_of_cut are v k default h =
      let p = slice_index_or ps k default in
      let inside : p < length i.processes = are k default h in
      let ends = v.in_time p (omega (arith, inside, (differ i ps d).all)) in
      let cut_off = cut-true (is_one_of ps p) (process_at i p).deadline d (one_of_place ps k default h) in
      omega (arith, ends.0, end_kept p, deadline_is i ps d p inside, cut_off)

  pub valid_cut : IsValid i plan → EndBy i ps plan d → IsValid (cut i ps d) plan
  valid_cut v by = valid_across i i.cluster.horizon (cut i ps d).processes (differ i ps d) plan v
      (λ p inside. omega (arith, wcet_kept i ps d p inside))
      (λ p there. omega (arith, v.released p (inside_old p there), release_kept i ps d p (inside_old p there)))
      (λ p there.
      let inside : p < length i.processes = inside_old p there in
      let ends = v.in_time p inside in
      let cut_off = le-cut (is_one_of ps p) (end_of i plan p) (process_at i p).deadline d ends.0 (of_each (λ q. end_of i plan q ≤ d) ps p by) in
      (omega (arith, cut_off, end_kept p, deadline_is i ps d p inside), omega (arith, ends.1, end_kept p)))
