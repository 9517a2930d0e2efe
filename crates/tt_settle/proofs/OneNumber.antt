-- A weight as one number, which falls with it.
use Rattle.std.proofs.Common.{◌≡◌, ℕ, zero, suc, Bool, true, false, if◌then◌else◌, ◌+◌, ◌-◌, ◌*◌, ◌<◌, ◌≤◌, length, arith, inl, inr, ap, suc-mul, mul-le-mul, mul-le-mul_right}
use Rattle.ttp_model.specs.declared.plan.Plan.{Plan}
use Rattle.ttp_model.specs.Instance.{Instance}
use Rattle.ttp_model.specs.Plans.{start_of}
use Rattle.ttp_model.specs.Moves.{IsLighter, weight, leads_turned, position_of}
use Rattle.ttp_model.specs.Totals.{total}
use Rattle.ttp_model.proofs.Totals.{total_more, total_bound}

-- a sum of products with indices below a count
product_sum-le : (f : ℕ → ℕ) (n m count : ℕ) → ((k : ℕ) → f k ≤ m) → n ≤ count → total (λ k. k * f k) n ≤ n * (count * m)
product_sum-le f zero m count h le = omega arith
product_sum-le f (suc n) m count h le =
    let inside : n ≤ count = omega (arith, le) in
    let top : n * f n ≤ count * m = mul-le-mul inside (h n) in
    omega (arith, total_more (λ k. k * f k) n, product_sum-le f n m count h inside, suc-mul n (count * m), top)

-- the second parts of all weights are below this
abbrev pub twins_below : Instance → ℕ
twins_below i = suc (length i.processes * (length i.processes * i.cluster.horizon) + length i.nodes * (length i.nodes * length i.nodes))

twins_are_below : (i : Instance) (plan : Plan) → (weight i plan).twins < twins_below i
twins_are_below i plan =
    let starts = product_sum-le (λ p. i.cluster.horizon - start_of plan p) (length i.processes) i.cluster.horizon (length i.processes) (λ k. omega arith) (omega arith) in
    let positions = product_sum-le (λ n. length i.nodes - position_of plan n) (length i.nodes) (length i.nodes) (length i.nodes) (λ k. omega arith) (omega arith) in
    omega (arith, starts, positions)

-- and the third parts below this
abbrev pub frames_below : Instance → ℕ
frames_below i = suc (length i.messages)

frames_are_below : (i : Instance) (plan : Plan) → (weight i plan).frames < frames_below i
frames_are_below i plan = omega (arith, total_bound (λ m. if leads_turned i plan m then 1 else 0) 1 (length i.messages) (λ k inside. at_most_one (leads_turned i plan k)))
  where
    at_most_one : (b : Bool) → (if b then 1 else 0) ≤ 1
    at_most_one true = omega arith
    at_most_one false = omega arith

-- one part and a smaller one behind it, as one number
joined_falls : (a b x y below : ℕ) → y < below → b < a → b * below + y < a * below + x
joined_falls a b x y below inside less =
    let room : suc b * below ≤ a * below = mul-le-mul_right below less in
    omega (arith, room, suc-mul b below, inside)

-- the weight as one number
abbrev pub whole_weight : Instance → Plan → ℕ
whole_weight i plan = ((weight i plan).times * twins_below i + (weight i plan).twins) * frames_below i + (weight i plan).frames

pub whole_weight_falls : (i : Instance) (plan lighter : Plan) → IsLighter (weight i lighter) (weight i plan) → whole_weight i lighter < whole_weight i plan
whole_weight_falls i plan lighter (inl less) =
    let first = joined_falls (weight i plan).times (weight i lighter).times (weight i plan).twins (weight i lighter).twins (twins_below i) (twins_are_below i lighter) less in
    joined_falls _ _ (weight i plan).frames (weight i lighter).frames (frames_below i) (frames_are_below i lighter) first
whole_weight_falls i plan lighter (inr (level, inl less)) =
    let first : (weight i lighter).times * twins_below i + (weight i lighter).twins < (weight i plan).times * twins_below i + (weight i plan).twins = omega (arith, ap (λ n. n * twins_below i) level, less) in
    joined_falls _ _ (weight i plan).frames (weight i lighter).frames (frames_below i) (frames_are_below i lighter) first
whole_weight_falls i plan lighter (inr (level, inr even)) =
    let first : (weight i lighter).times * twins_below i + (weight i lighter).twins ≡ (weight i plan).times * twins_below i + (weight i plan).twins = omega (arith, ap (λ n. n * twins_below i) level, even.0) in
    omega (arith, ap (λ n. n * frames_below i) first, even.1)
