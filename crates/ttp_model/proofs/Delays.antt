-- No move raises the delay.
use Rattle.std.proofs.Common.{◌≡◌, ℕ, ◌-◌, ◌<◌, ◌≤◌, List, length, slice_index, slice_set, arith, inl, inr, ap, ◌∙◌, get_or-set_same}
use Rattle.std.proofs.lemmas.Bool.{cases_order}
use Rattle.std.proofs.lemmas.Grind.{common_steps}
use Rattle.std.proofs.lemmas.List.Edits.{swapped_from_swap}
use Rattle.ttp_model.specs.declared.plan.Plan.{Plan}
use Rattle.ttp_model.specs.Instance.{Instance}
use Rattle.ttp_model.specs.Rules.{IsInstance}
use Rattle.ttp_model.specs.Plans.{IsValid, start_of, end_of}
use Rattle.ttp_model.specs.Delays.{delay}
use Rattle.ttp_model.specs.Moves.{Move, StartsEarlier, SendsEarlier, SwapsTwins, SwapsSilentTwins, TurnsFrame}
use Rattle.ttp_model.proofs.ValidPlans.{greatest_each, greatest_reached}

-- what no element of a list is past after one of them is lowered
pub set_lower : (xs : List ℕ) (at value k : ℕ) → at < length xs → value ≤ slice_index xs at → slice_index (slice_set xs at value) k ≤ slice_index xs k
set_lower xs at value k inside lower = elim (cases_order k at) [
  | inl same ↦ (let is : slice_index (slice_set xs at value) k ≡ value = ap (slice_index (slice_set xs at value)) same ∙ get_or-set_same xs at value 0 inside in omega (arith, is, ap (slice_index xs) same, lower))
  | inr other ↦ (let is : slice_index (slice_set xs at value) k ≡ slice_index xs k = grind (arith, common_steps, other) in omega (arith, is))
]

module _ (i : Instance) (plan moved : Plan) (w : IsInstance i) (v : IsValid i plan) where
  -- a plan ends no later if each process ends by then
  ends_by : ((p : ℕ) → p < length i.processes → end_of i moved p ≤ delay i plan) → delay i moved ≤ delay i plan
  ends_by each =
      let last = greatest_reached (end_of i moved) (length i.processes) (omega (arith, w.limits.processes_least)) in
      omega (arith, last.2, each last.0 last.1)

  own : (p : ℕ) → p < length i.processes → end_of i plan p ≤ delay i plan
  own p inside = greatest_each (end_of i plan) (length i.processes) p inside

  -- so it does if each starts no later
  pub by_starts : ((p : ℕ) → p < length i.processes → start_of moved p ≤ start_of plan p) → delay i moved ≤ delay i plan
  by_starts each = ends_by (λ p inside. omega (arith, each p inside, own p inside))

  starts_earlier : StartsEarlier i plan moved → delay i moved ≤ delay i plan
  starts_earlier move = by_starts (λ p inside.
      let is : start_of moved p ≡ slice_index (slice_set plan.starts move.process (start_of plan move.process - 1)) p = ap (λ m. start_of m p) move.moved_is in
      let lower = set_lower plan.starts move.process (start_of plan move.process - 1) p (omega (arith, move.is_there, v.lengths.starts)) (omega arith) in
      omega (arith, is, lower))

  sends_earlier : SendsEarlier i plan moved → delay i moved ≤ delay i plan
  sends_earlier move = by_starts (λ p inside. let is : start_of moved p ≡ start_of plan p = ap (λ m. start_of m p) move.moved_is in omega (arith, is))

  swaps_silent_twins : SwapsSilentTwins i plan moved → delay i moved ≤ delay i plan
  swaps_silent_twins move = by_starts (λ p inside. let is : start_of moved p ≡ start_of plan p = ap (λ m. start_of m p) move.moved_is in omega (arith, is))

  turns_frame : TurnsFrame i plan moved → delay i moved ≤ delay i plan
  turns_frame move = by_starts (λ p inside. let is : start_of moved p ≡ start_of plan p = ap (λ m. start_of m p) move.moved_is in omega (arith, is))

  swaps_twins : SwapsTwins i plan moved → delay i moved ≤ delay i plan
  swaps_twins move = ends_by each
    where
      each : (p : ℕ) → p < length i.processes → end_of i moved p ≤ delay i plan
      each p inside =
          let a = move.first in
          let b = move.second in
          let places = swapped_from_swap plan.starts moved.starts a b 0 (omega (arith, move.twins.p_is, v.lengths.starts)) (omega (arith, move.twins.q_is, v.lengths.starts)) (ap (λ m. m.starts) move.moved_is) in
          elim (cases_order p a) [
            | inl first ↦ (let is : end_of i moved p ≡ end_of i moved a = ap (end_of i moved) first in omega (arith, is, places.0, move.twins.wcet, own b move.twins.q_is))
            | inr not_a ↦ elim (cases_order p b) [
              | inl second ↦ (let is : end_of i moved p ≡ end_of i moved b = ap (end_of i moved) second in omega (arith, is, places.1, move.twins.wcet, own a move.twins.p_is))
              | inr not_b ↦ (let is = places.2 p (λ same. omega (arith, same, not_a)) (λ same. omega (arith, same, not_b)) in omega (arith, is, own p inside))
            ]
          ]

pub keeps_delay : (i : Instance) (plan moved : Plan) → IsInstance i → IsValid i plan → IsValid i moved → Move i plan moved → delay i moved ≤ delay i plan
keeps_delay i plan moved w v after (inl (inl (inl move))) = starts_earlier i plan moved w v move
keeps_delay i plan moved w v after (inl (inl (inr move))) = sends_earlier i plan moved w v move
keeps_delay i plan moved w v after (inl (inr (inl move))) = swaps_twins i plan moved w v move
keeps_delay i plan moved w v after (inl (inr (inr move))) = swaps_silent_twins i plan moved w v move
keeps_delay i plan moved w v after (inr move) = turns_frame i plan moved w v move
