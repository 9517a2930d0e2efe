-- What messages put into a frame on one channel, and on whatever channel.
use Rattle.std.proofs.Common.{◌≡◌, ℕ, ◌<◌, ◌≤◌, ◌==◌, Bool, true, false, if◌then◌else◌, length, arith, inl, inr, refl}
use Rattle.std.proofs.lemmas.Bool.{cases_order, eq-eqb, or_left}
use Rattle.ttp_model.specs.declared.error.Place.TheVariants.{AtCluster}
use Rattle.ttp_model.specs.declared.plan.Plan.{Plan}
use Rattle.ttp_model.specs.Limits.{both_channels}
use Rattle.ttp_model.specs.Instance.{Instance}
use Rattle.ttp_model.specs.Rules.{IsInstance}
use Rattle.ttp_model.specs.Plans.{IsValid, bytes_in, bytes_on, is_on, channel_of}

if_at_most : (b : Bool) (x : ℕ) → (if b then x else 0) ≤ x
if_at_most true x = omega arith
if_at_most false x = omega arith

-- on a channel a message puts into a frame at most what it puts there at all
pub on_at_most : (i : Instance) (plan : Plan) (n r c m : ℕ) → bytes_on i plan n r c m ≤ bytes_in i plan n r m
on_at_most i plan n r c m = if_at_most (is_on c (channel_of plan m)) (bytes_in i plan n r m)

-- and just that where it is on the channel
pub all_on : (i : Instance) (plan : Plan) (n r c m : ℕ) → is_on c (channel_of plan m) ≡ true → bytes_on i plan n r c m ≡ bytes_in i plan n r m
all_on i plan n r c m on = rw on refl

-- nothing where it isn't
pub none_on : (i : Instance) (plan : Plan) (n r c m : ℕ) → is_on c (channel_of plan m) ≡ false → bytes_on i plan n r c m ≡ 0
none_on i plan n r c m off = rw off refl

-- a number is its own channel
pub on_own_number : (c : ℕ) → is_on c c ≡ true
on_own_number c = or_left (c == c) (c == both_channels) (eq-eqb c c refl)

-- a message of number 0 is on channel 0
on_first : (c number : ℕ) → c ≡ 0 → number ≡ 0 → is_on c number ≡ true
on_first c number first zeroth = rw (first, zeroth) refl

-- a message of a valid plan is on a channel of the cluster
pub on_some_channel : (i : Instance) (plan : Plan) (m : ℕ) → IsInstance i → IsValid i plan → m < length i.messages → (c : ℕ) × (c < i.cluster.channels) × (is_on c (channel_of plan m) ≡ true)
on_some_channel i plan m w v inside =
    let there = (w.ranges AtCluster).channels_least in
    elim (cases_order (channel_of plan m) 1) [
      | inl second ↦ elim (cases_order i.cluster.channels 1) [
        | inl alone ↦ absurd (omega (arith, second, (v.on_own m inside).alone alone))
        | inr other ↦ elim other [
          | inl none ↦ absurd (omega (arith, none, there))
          | inr more ↦ (1, omega (arith, more), rw second (on_own_number 1))
        ]
      ]
      | inr other ↦ elim other [
        | inl first ↦ (0, omega (arith, there), on_first 0 (channel_of plan m) refl (omega (arith, first)))
        | inr above ↦ (
            let both : channel_of plan m ≡ 2 = omega (arith, above, (v.on_own m inside).known) in
            (0, omega (arith, there), rw both refl))
      ]
    ]
