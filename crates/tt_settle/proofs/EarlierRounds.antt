-- A message in the first round that has room for it: the plan stays valid, and the message can be sent no earlier.
use Rattle.std.proofs.Common.{ℕ, ◌<◌, ◌≤◌, length, arith, inl, inr, refl, ap}
use Rattle.ttp_model.specs.declared.plan.Plan.{Plan}
use Rattle.ttp_model.specs.Instance.{Instance, source_of}
use Rattle.ttp_model.specs.Rules.{IsInstance}
use Rattle.ttp_model.specs.Slots.{slot_start}
use Rattle.ttp_model.specs.Plans.{IsValid, round_of}
use Rattle.ttp_model.specs.Moves.{SendsEarlier, sent}
use Rattle.ttp_model.proofs.ValidPlans.{frames_fit_lem}
use Rattle.tt_moves.specs.Earlier.{CanBeSent}
use Rattle.tt_moves.proofs.EarlierRounds.{sent_valid, here}
use Rattle.plan_facts.specs.Earliest.{IsFirstRoom}
use Rattle.tt_settle.specs.Settling.{IsBetter, RestsInRound}
use Rattle.tt_settle.proofs.Trying.{better_by_move}

module _ (i : Instance) (plan : Plan) (m r : ℕ) (w : IsInstance i) (v : IsValid i plan) (hm : m < length i.messages) (first : IsFirstRoom i plan m r) where
  pub better_first : r < round_of plan m → IsBetter i plan (sent plan m r)
  better_first sooner =
      let move : SendsEarlier i plan (sent plan m r) = record { message = m; round = r; is_there = hm; earlier = sooner; moved_is = refl } in
      better_by_move i plan (sent plan m r) w v (sent_valid i plan m r v hm (omega (arith, sooner)) first.can) (inl (inl (inr move)))

  -- where the plan is valid with it in another round, it can be sent there
  could_be_sent : (s : ℕ) → IsValid i (sent plan m s) → CanBeSent i plan m s
  could_be_sent s v' =
      let now = ap (slot_start i.cluster plan.order plan.caps (source_of i m)) (here i plan m s v hm) in
      record {
        ready = omega (arith, v'.ready m hm, now);
        fits = λ c within _. frames_fit_lem i (sent plan m s) (source_of i m) s c v' within;
      }

  pub rests_in_round : round_of plan m ≤ r → RestsInRound i plan m
  rests_in_round late s sooner v' = omega (arith, first.least s (could_be_sent s v'), sooner, late)
