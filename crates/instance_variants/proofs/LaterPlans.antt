-- Plans of an instance in which all may end later: by how much they are late, and with which other ends they are valid.
use Rattle.std.proofs.Common.{◌≡◌, ℕ, zero, suc, ◌+◌, ◌<◌, ◌≤◌, List, length, map, arith, add-one, ◌∙◌}
use Rattle.std.specs.List.{range_with_len}
use Rattle.ttp_model.specs.declared.parts.Process.{Process}
use Rattle.ttp_model.specs.declared.plan.Plan.{Plan}
use Rattle.ttp_model.specs.Limits.{most_ticks}
use Rattle.ttp_model.specs.Lists.{greatest}
use Rattle.ttp_model.specs.Instance.{Instance, process_at}
use Rattle.ttp_model.specs.Plans.{IsValid, end_of}
use Rattle.ttp_model.specs.Delays.{HasNoPlan}
use Rattle.ttp_model.proofs.ValidPlans.{greatest_each, greatest_more}
use Rattle.instance_variants.specs.Later.{later, put_off}
use Rattle.plan_facts.specs.Ends.{late_by}
use Rattle.instance_variants.specs.Lateness.{lateness}
use Rattle.instance_variants.proofs.Varied.{both_differ, end_same, turned}
use Rattle.instance_variants.proofs.VariedPlans.{valid_across}
use Rattle.instance_variants.proofs.LaterProcesses.{count, deadline_is, differ, release_kept, wcet_kept}

-- the greatest of some numbers is at most what none of them is past
pub greatest_within : (f : ℕ → ℕ) (n x : ℕ) → ((p : ℕ) → p < n → f p ≤ x) → greatest (map f (range_with_len 0 n)) ≤ x
greatest_within f zero x each = omega arith
greatest_within f (suc n) x each =
    let more = rw add-one at (greatest_more f n) in
    omega (arith, more, greatest_within f n x (λ p below. each p (omega (arith, below))), each n (omega arith))

module _ (i : Instance) (plan : Plan) where
  end_kept : (x p : ℕ) → end_of (later i x) plan p ≡ end_of i plan p
  end_kept x = end_same i (put_off x i.cluster.horizon) (later i x).processes (differ i x) (wcet_kept i x) plan

  inside_old : (x p : ℕ) → p < length (later i x).processes → p < length i.processes
  inside_old x p there = omega (arith, there, count i x)

  own_late : (p : ℕ) → p < length i.processes → late_by i plan p ≤ lateness i plan
  own_late p inside = greatest_each (late_by i plan) (length i.processes) p inside

  module _ (x : ℕ) (v : IsValid (later i x) plan) where
    ends : (p : ℕ) → p < length i.processes
        → (end_of i plan p ≤ (process_at i p).deadline + x) × (end_of i plan p ≤ i.cluster.horizon + x) × (end_of i plan p ≤ most_ticks)
    ends p inside =
        let within = v.in_time p (omega (arith, inside, count i x)) in
        let same = end_kept x p in
        let by : end_of i plan p ≤ put_off x (process_at i p).deadline = omega (arith, within.0, same, deadline_is i x p inside) in
        (omega (arith, by), omega (arith, within.1, same), omega (arith, by))

    pub starts_all : length plan.starts ≡ length i.processes
    starts_all = v.lengths.starts ∙ count i x

    pub late_within : lateness i plan ≤ x
    late_within = greatest_within (late_by i plan) (length i.processes) x (λ p inside. let by = ends p inside in omega (arith, by.0, by.1))

    pub late_small : lateness i plan ≤ most_ticks
    late_small = greatest_within (late_by i plan) (length i.processes) most_ticks (λ p inside. let by = ends p inside in omega (arith, by.2))

    -- it is valid wherever all ends are later by its lateness at least
    pub valid_late : (y : ℕ) → lateness i plan ≤ y → IsValid (later i y) plan
    valid_late y enough =
        let other = both_differ (later i x).processes i.processes (later i y).processes (turned _ _ (differ i x)) (differ i y) in
        valid_across (later i x) (put_off y i.cluster.horizon) (later i y).processes other plan v
        (λ p there. omega (arith, wcet_kept i x p (inside_old x p there), wcet_kept i y p (inside_old x p there)))
        (λ p there.
        let inside : p < length i.processes = inside_old y p there in
        omega (arith, v.released p (omega (arith, inside, count i x)), release_kept i x p inside, release_kept i y p inside))
        (λ p there.
        let inside : p < length i.processes = inside_old y p there in
        let by = ends p inside in
        let late = own_late p inside in
        let same = end_kept y p in
        (omega (arith, by.2, late, enough, same, deadline_is i y p inside), omega (arith, by.2, late, enough, same)))

module _ (i : Instance) where
  pub plan_later : (plan : Plan) (x y : ℕ) → x ≤ y → IsValid (later i x) plan → IsValid (later i y) plan
  plan_later plan x y le v = valid_late i plan x v y (omega (arith, le, late_within i plan x v))

  pub none_sooner : (x y : ℕ) → x ≤ y → HasNoPlan (later i y) → HasNoPlan (later i x)
  none_sooner x y le none plan v = none plan (plan_later plan x y le v)

  pub valid_own : (plan : Plan) (x : ℕ) → IsValid (later i x) plan → IsValid (later i (lateness i plan)) plan
  valid_own plan x v = valid_late i plan x v (lateness i plan) (omega arith)

  pub none_ever : (x : ℕ) → HasNoPlan (later i most_ticks) → HasNoPlan (later i x)
  none_ever x none plan v = none plan (valid_late i plan x v most_ticks (late_small i plan x v))
