-- The moves lead from each valid plan to a settled one. On the way plans stay valid, end no later and grow lighter.
use Rattle.std.proofs.Common.{◌≡◌, ◌<◌, ◌≤◌, ◌⊎◌, arith, inl, inr, refl, ◌∙◌}
use Rattle.ttp_model.specs.declared.plan.Plan.{Plan}
use Rattle.ttp_model.specs.Instance.{Instance}
use Rattle.ttp_model.specs.Rules.{IsInstance}
use Rattle.ttp_model.specs.Plans.{IsValid}
use Rattle.ttp_model.specs.Delays.{delay}
use Rattle.ttp_model.specs.Moves.{Move, MovesLead, none, one_more, Weight, IsLighter, IsSettled, weight}
use Rattle.ttp_model.proofs.Descent.{by_weight}
use Rattle.ttp_model.proofs.NextMoves.{move_or_none}
use Rattle.ttp_model.proofs.Delays.{keeps_delay}
use Rattle.ttp_model.proofs.Lighter.{lowers_weight}

pub lighter_still : (a b c : Weight) → IsLighter b a → IsLighter c b → IsLighter c a
lighter_still a b c (inl one) (inl two) = inl (omega (arith, one, two))
lighter_still a b c (inl one) (inr two) = inl (omega (arith, one, two.0))
lighter_still a b c (inr one) (inl two) = inl (omega (arith, one.0, two))
lighter_still a b c (inr one) (inr two) = inr (two.0 ∙ one.0, second one.1 two.1)
  where
    second : (b.twins < a.twins) ⊎ ((b.twins ≡ a.twins) × (b.frames < a.frames)) → (c.twins < b.twins) ⊎ ((c.twins ≡ b.twins) × (c.frames < b.frames)) → (c.twins < a.twins) ⊎ ((c.twins ≡ a.twins) × (c.frames < a.frames))
    second (inl one) (inl two) = inl (omega (arith, one, two))
    second (inl one) (inr two) = inl (omega (arith, one, two.0))
    second (inr one) (inl two) = inl (omega (arith, one.0, two))
    second (inr one) (inr two) = inr (two.0 ∙ one.0, omega (arith, one.1, two.1))

-- moves that lead on after others
pub leads_on : (i : Instance) (plan next last : Plan) → MovesLead i plan next → MovesLead i next last → MovesLead i plan last
leads_on i _ _ last (none plan) two = two
leads_on i _ _ last (one_more plan moved next move valid rest) two = one_more plan moved last move valid (leads_on i moved next last rest two)

pub leads_one : (i : Instance) (plan moved : Plan) → Move i plan moved → IsValid i moved → MovesLead i plan moved
leads_one i plan moved move valid = one_more plan moved moved move valid (none moved)

pub leads_valid : (i : Instance) (plan last : Plan) → IsValid i plan → MovesLead i plan last → IsValid i last
leads_valid i _ _ v (none plan) = v
leads_valid i _ _ v (one_more plan moved last move valid rest) = leads_valid i moved last valid rest

pub leads_delay : (i : Instance) (plan last : Plan) → IsInstance i → IsValid i plan → MovesLead i plan last → delay i last ≤ delay i plan
leads_delay i _ _ w v (none plan) = omega arith
leads_delay i _ _ w v (one_more plan moved last move valid rest) = omega (arith, leads_delay i moved last w valid rest, keeps_delay i plan moved w v valid move)

pub leads_weight : (i : Instance) (plan last : Plan) → IsInstance i → IsValid i plan → MovesLead i plan last → (last ≡ plan) ⊎ IsLighter (weight i last) (weight i plan)
leads_weight i _ _ w v (none plan) = inl refl
leads_weight i _ _ w v (one_more plan moved last move valid rest) =
    let first = lowers_weight i plan moved w v valid move in
    inr (elim (leads_weight i moved last w valid rest) [
      | inl same ↦ rw same first
      | inr lighter ↦ lighter_still (weight i plan) (weight i moved) (weight i last) first lighter
    ])

abbrev Reaches : Instance → Plan → Type 0
Reaches i plan = IsValid i plan → (settled : Plan) × MovesLead i plan settled × IsSettled i settled

pub moves_reach : (i : Instance) (plan : Plan) → IsInstance i → IsValid i plan → (settled : Plan) × MovesLead i plan settled × IsSettled i settled
moves_reach i plan w = by_weight i (Reaches i) step plan
  where
    step : (p : Plan) → ((lighter : Plan) → IsLighter (weight i lighter) (weight i p) → Reaches i lighter) → Reaches i p
    step p rest v = elim (move_or_none i p) [
      | inl next ↦
          let goes = rest next.0 (lowers_weight i p next.0 w v next.2 next.1) next.2 in
          (goes.0, one_more p next.0 goes.0 next.1 next.2 goes.1, goes.2)
      | inr no_move ↦ (p, none p, record { valid = v; rests = λ moved move valid. no_move (moved, move, valid) })
    ]

pub settled_reached : (i : Instance) (plan : Plan) → IsInstance i → IsValid i plan → (settled : Plan) × IsSettled i settled × (delay i settled ≤ delay i plan)
settled_reached i plan w v = let goes = moves_reach i plan w v in (goes.0, goes.2, leads_delay i plan goes.0 w v goes.1)
