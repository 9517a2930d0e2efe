-- What is too much in an interval for all channels closes, and where nothing is, no such closer is lawful.
use Rattle.std.proofs.Common.{◌≡◌, ◌*◌, ◌≤◌, ℕ, refl, arith, ap₂, subst}
use Rattle.std.proofs.Math.Nat.{mul-le-mul}
use Rattle.ttp_model.specs.declared.error.Place.TheVariants.{AtCluster}
use Rattle.ttp_model.specs.declared.limits.TheConstants.{MOST_BYTES}
use Rattle.ttp_model.specs.Limits.{most_channels}
use Rattle.tt_choice.specs.Extremes.{cap_most}
use Rattle.load_bounds.specs.Within.{IsExcess}
use Rattle.load_bounds.proofs.Closing.{frames_are_lawful, no_lawful_frames}
use Rattle.load_bounds.proofs.loads.whole_load.Goals as goal

pub overflow_mul-channels : goal.overflow_mul-channels
overflow_mul-channels c =
    let channels : c.cluster.result.now.channels ≤ most_channels = rw c.cluster.ensures.value (c.cluster.ensures.instance.ranges AtCluster).channels in
    let few = mul-le-mul {n₁ = c.cluster.result.now.channels} {m₁ = c.cap_most-capacity.result} {n₂ = most_channels} {m₂ = MOST_BYTES} channels c.cap_most-capacity.ensures.small in
    omega (arith, few)

pub returns-in-Some : goal.returns-in-Some
returns-in-Some c =
    let s = c.args.facts.now in
    let a = c.in-Some.a in
    let b = c.in-Some.b in
    let channels : c.cluster.result.now.channels ≡ s.instance.cluster.channels = rw (c.cluster.ensures.value, c.instance-instance.ensures.value) refl in
    let capacity : c.cap_most-capacity.result ≡ cap_most s.instance s.choice c.args.node = rw (c.cap_most-capacity.ensures.value, c.instance-instance.ensures.value, c.choice.ensures.value) refl in
    let room = ap₂ (λ (k : ℕ) (cap : ℕ). k * cap) channels capacity in
    let P : ℕ → Type 0 = λ rate. IsExcess rate c.sendings_of-sendings.result a b in
    let sendings = c.sendings_of-sendings in
    (a, (b, (refl, frames_are_lawful s c.args.node a b sendings.result c.requires sendings.ensures (subst P room c.in-Some.ensures))))

pub returns-in-None : goal.returns-in-None
returns-in-None c =
    let s = c.args.facts.now in
    let channels : c.cluster.result.now.channels ≡ s.instance.cluster.channels = rw (c.cluster.ensures.value, c.instance-instance.ensures.value) refl in
    let capacity : c.cap_most-capacity.result ≡ cap_most s.instance s.choice c.args.node = rw (c.cap_most-capacity.ensures.value, c.instance-instance.ensures.value, c.choice.ensures.value) refl in
    let room = ap₂ (λ (k : ℕ) (cap : ℕ). k * cap) channels capacity in
    let P : ℕ → Type 0 = λ rate. (a b : ℕ) → ¬ IsExcess rate c.sendings_of-sendings.result a b in
    no_lawful_frames s c.args.node c.sendings_of-sendings.result c.sendings_of-sendings.ensures (subst P room c.in-None.ensures)
