-- A message in the rounds up to its own: whether it can be sent in one.
use Rattle.std.proofs.Common.{◌≡◌, ℕ, ◌<◌, ◌≤◌, List, length, arith, ap, inl, inr, sym, subst}
use Rattle.std.proofs.Math.Nat.{mul-le-mul_right}
use Rattle.std.proofs.lemmas.Bool.{cases_lt}
use Rattle.std.proofs.lemmas.List.{set-get_or}
use Rattle.ttp_model.specs.declared.plan.Plan.{Plan}
use Rattle.ttp_model.specs.Instance.{Instance, source_of}
use Rattle.ttp_model.specs.Lists.{EachBelow}
use Rattle.ttp_model.specs.Moves.{sent}
use Rattle.ttp_model.specs.Plans.{IsValid, load_on, round_of}
use Rattle.ttp_model.specs.Slots.{round_length}
use Rattle.ttp_model.proofs.ValidPlans.{frames_fit_lem}
use Rattle.tt_moves.specs.Earlier.{CanBeSent}
use Rattle.tt_moves.proofs.EarlierRounds.{comes}
use Rattle.plan_facts.specs.Earliest.{CanBeSentFrom, HasRoom, IsFirstRoom}
use Rattle.plan_facts.specs.Messages.{IsFirstInTime}

module _ (i : Instance) (plan : Plan) (m : ℕ) where
  -- it can be sent in none before this one
  pub none_before : (r : ℕ) → EachBelow r (λ s. ¬ CanBeSent i plan m s) → CanBeSentFrom i plan m r
  none_before r none s can = elim (cases_lt s r) [
    | inl before ↦ absurd (none s before can)
    | inr after ↦ omega (arith, after)
  ]

  module _ (v : IsValid i plan) (inside : m < length i.messages) where
    pub has_room_there : (r : ℕ) → r < round_of plan m → CanBeSent i plan m r → HasRoom i plan m r
    has_room_there r sooner can c within on = omega (arith, comes i plan m r v inside c on (λ is. omega (arith, is, sooner)), can.fits c within on)

    pub can_be_sent : (first r : ℕ) → IsFirstInTime i plan m first → first ≤ r → r < round_of plan m → HasRoom i plan m r → CanBeSent i plan m r
    can_be_sent first r is from sooner room = record {
      ready = omega (arith, is.late_enough, mul-le-mul_right (round_length i.cluster plan.caps) from);
      fits = λ c within on. omega (arith, comes i plan m r v inside c on (λ is. omega (arith, is, sooner)), room c within on);
    }

    -- the plan with the round that the message has anyway
    own_round : sent plan m (round_of plan m) ≡ plan
    own_round = ap (λ (xs : List ℕ). record plan { rounds = xs }) (set-get_or plan.rounds m 0)

    -- it can be sent in that one
    pub can_be_sent_there : CanBeSent i plan m (round_of plan m)
    can_be_sent_there = record {
      ready = v.ready m inside;
      fits = λ c within on.
          omega (
            arith,
            ap (λ (other : Plan). load_on i other (source_of i m) (round_of plan m) c) own_round,
            frames_fit_lem i plan (source_of i m) (round_of plan m) c v within,
          );
    }

    -- so the first is no later
    pub first_room-le : (r : ℕ) → IsFirstRoom i plan m r → r ≤ round_of plan m
    first_room-le r first = first.least (round_of plan m) can_be_sent_there
