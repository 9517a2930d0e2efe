-- The round of a message is the first in time where the first isn't before it.
use Rattle.std.proofs.Common.{◌≡◌, ℕ, ◌<◌, ◌≤◌, length, arith, subst}
use Rattle.ttp_model.specs.declared.plan.Plan.{Plan}
use Rattle.ttp_model.specs.Instance.{Instance}
use Rattle.ttp_model.specs.Plans.{IsValid, round_of}
use Rattle.plan_facts.specs.Earliest.{CanBeSentFrom, IsFirstRoom}
use Rattle.plan_facts.specs.Messages.{IsFirstInTime}

module _ (i : Instance) (plan : Plan) (m : ℕ) (v : IsValid i plan) (inside : m < length i.messages) where
  -- its own is in time
  pub own_is_first : (first : ℕ) → IsFirstInTime i plan m first → round_of plan m ≤ first → IsFirstInTime i plan m (round_of plan m)
  own_is_first first is at_most =
      let same : first ≡ round_of plan m = omega (arith, at_most, is.least (round_of plan m) (v.ready m inside)) in
      subst (λ (r : ℕ). IsFirstInTime i plan m r) same is

-- where the first with room isn't before it, none is
pub none_sooner : (i : Instance) (plan : Plan) (m r : ℕ) → IsFirstRoom i plan m r → round_of plan m ≤ r → CanBeSentFrom i plan m (round_of plan m)
none_sooner i plan m r first late other can = omega (arith, first.least other can, late)
