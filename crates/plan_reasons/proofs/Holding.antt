-- What holds a process back that ends as its longest chain does: its release, a link or a message.
use Rattle.std.proofs.Common.{◌≡◌, ◌≢◌, ◌⊎◌, ℕ, ◌+◌, ◌<◌, ◌≤◌, List, None, length, slice_index, arith, inl, inr, refl, ap, subst, ◌∙◌}
use Rattle.std.proofs.lemmas.Bool.{cases_lt}
use Rattle.std.proofs.lemmas.List.{get_or_past}
use Rattle.ttp_model.specs.Instance.{Instance, process_at, node_of}
use Rattle.ttp_model.specs.Rules.{IsInstance}
use Rattle.ttp_model.specs.Chains.{ChainEnds, one, by_link, by_message, least_transfer}
use Rattle.ttp_model.proofs.Walks.{chain_inside, to_chain}
use Rattle.plan_facts.specs.Longest.{AreLongest}
use Rattle.plan_facts.proofs.Walks.{bound_found}
use Rattle.plan_reasons.specs.PlanCauses.{Finds}
use Rattle.plan_reasons.specs.PathChains.{EndsLast, LinkHolds, MessageHolds}

module _ (i : Instance) (w : IsInstance i) (ends : List ℕ) (are : AreLongest i ends) where
  -- something holds process q back until this tick
  abbrev IsHeld : ℕ → ℕ → Type 0
  IsHeld q from =
      ((process_at i q).release ≡ from) ⊎ (((l : ℕ) × (l < length i.links) × LinkHolds i ends q from l)
      ⊎ ((m : ℕ) × (m < length i.messages) × MessageHolds i ends q from m))

  inside_of : (p time : ℕ) → ChainEnds i p time → p < length i.processes
  inside_of p time chain = let counted = to_chain i p time chain in chain_inside i w counted.0 p time counted.1

  -- What a longest chain leads over is the longest chain to the process before: a longer one would make it longer.
  held_at : (q time : ℕ) → ChainEnds i q time → ((other : ℕ) → ChainEnds i q other → other ≤ time)
      → (from : ℕ) × (from + (process_at i q).wcet ≡ time) × IsHeld q from
  held_at _ _ (one q inside) most = ((process_at i q).release, refl, inl refl)
  held_at _ _ (by_link p q time chain link) most =
      let longest = are.each p (inside_of p time chain) in
      let more = most (slice_index ends p + (process_at i q).wcet) (by_link p q (slice_index ends p) longest.reached link) in
      let same : slice_index ends p ≡ time = omega (arith, more, longest.greatest time chain) in
      (time, refl, inr (inl (link.link, link.is_there, (link.after, ap (slice_index ends) link.before ∙ same))))
  held_at _ _ (by_message p q time chain message) most =
      let longest = are.each p (inside_of p time chain) in
      let more = most (slice_index ends p + least_transfer i (node_of i p) + (process_at i q).wcet)
      (by_message p q (slice_index ends p) longest.reached message) in
      let same : slice_index ends p ≡ time = omega (arith, more, longest.greatest time chain) in
      let sent = ap (λ (k : ℕ). slice_index ends k + least_transfer i (node_of i k)) message.sender in
      (time + least_transfer i (node_of i p), refl, inr (inr (message.message, message.is_there, (message.receiver, omega (arith, sent, same)))))

  module _ (p : ℕ) (inside : p < length i.processes) where
    held : (from : ℕ) × (from + (process_at i p).wcet ≡ slice_index ends p) × IsHeld p from
    held = held_at p (slice_index ends p) (are.each p inside).reached (are.each p inside).greatest

    pub wcet_within : (process_at i p).wcet ≤ slice_index ends p
    wcet_within = omega (arith, held.1)

    pub is_held : (from : ℕ) → from + (process_at i p).wcet ≡ slice_index ends p → (process_at i p).release ≢ from
        → Finds (length i.links) (LinkHolds i ends p from) None → Finds (length i.messages) (MessageHolds i ends p from) None → ⊥
    is_held from begins late unlinked unheard =
        let same : held.0 ≡ from = omega (arith, held.1, begins) in
        elim (subst (IsHeld p) same held.2) [
          | inl released ↦ late released
          | inr (inl link) ↦ unlinked link.0 link.1 link.2
          | inr (inr message) ↦ unheard message.0 message.1 message.2
        ]

  -- the first of the greatest
  pub is_last : (last : ℕ) → last < length i.processes → ((k : ℕ) → k < length ends → slice_index ends k ≤ slice_index ends last)
      → ((k : ℕ) → k < last → slice_index ends k < slice_index ends last) → EndsLast i ends last
  is_last last inside most first = record {
    within = inside;
    holds = bound_found i w ends last (slice_index ends last) are (omega (arith, inside, are.all)) refl every;
    none_before = λ k before bound. omega (arith, first k before, bound.greatest last (slice_index ends last) (are.each last inside).reached);
  }
    where
      every : (k : ℕ) → slice_index ends k ≤ slice_index ends last
      every k = elim (cases_lt k (length ends)) [
        | inl within ↦ most k within
        | inr beyond ↦ omega (arith, get_or_past ends k 0 beyond)
      ]
