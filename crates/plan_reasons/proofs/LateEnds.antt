-- What ends too late even at the earliest does so in each plan: where a plan is valid, nothing is told.
use Rattle.std.proofs.Common.{◌≡◌, ◌∙◌, ◌≢◌, ℕ, zero, suc, ◌+◌, ◌<◌, ◌≤◌, List, [], ◌∷◌, ◌++◌, ap, arith, le-leb, length, refl, slice_index}
use Rattle.std.specs.List.{flat_map, range_with_len}
use Rattle.std.proofs.lemmas.List.Elements.{Contains-get_or}
use Rattle.ttp_model.specs.declared.error.Place.TheVariants.{AtLink, AtMessage}
use Rattle.ttp_model.specs.declared.plan.Plan.{Plan}
use Rattle.ttp_model.specs.Instance.{Instance, link_at, message_at, process_at}
use Rattle.ttp_model.specs.Chains.{ChainEnds, by_link, by_message, one}
use Rattle.ttp_model.specs.Delays.{HasNoPlan}
use Rattle.ttp_model.specs.Plans.{IsValid}
use Rattle.ttp_model.specs.Rules.{IsInstance}
use Rattle.ttp_model.proofs.PlanNumbers.{chain-le}
use Rattle.plan_facts.specs.Longest.{AreLongest}
use Rattle.plan_facts.specs.Ends.{must_end_by}
use Rattle.plan_reasons.specs.declared.runs.StartCause.{StartCause}
use Rattle.plan_reasons.specs.declared.runs.StartCause.TheVariants.{Arrival, Behind, CouldStart, Link, Release}
use Rattle.plan_reasons.specs.declared.path_parts.ChainPart.{ChainPart}
use Rattle.plan_reasons.specs.Late.{arrived_late, late_part, late_parts, linked_late, receivers_late, released_late, there_at}

none_listed : (f : ℕ → List ChainPart) (xs : List ℕ) → ((k : ℕ) → k < length xs → f (slice_index xs k) ≡ []) → flat_map f xs ≡ []
none_listed f [] none = refl
none_listed f (x ∷ xs) none =
    ap (λ (parts : List ChainPart). parts ++ flat_map f xs) (none zero (omega arith)) ∙ none_listed f xs (λ k inside. none (suc k) (omega (arith, inside)))

none_from : (f : ℕ → List ChainPart) (start count : ℕ) → ((k : ℕ) → k < start + count → f k ≡ []) → flat_map f (range_with_len start count) ≡ []
none_from f start zero none = refl
none_from f start (suc count) none =
    ap (λ (parts : List ChainPart). parts ++ flat_map f (range_with_len (start + 1) count)) (none start (omega arith))
    ∙ none_from f (start + 1) count (λ k inside. none k (omega (arith, inside)))

module _ (i : Instance) (ends : List ℕ) (w : IsInstance i) (longest : AreLongest i ends) (plan : Plan) (valid : IsValid i plan) where
  in_time : (p from : ℕ) (cause : StartCause) → p < length i.processes → ChainEnds i p (from + (process_at i p).wcet) → late_part i p from cause ≡ []
  in_time p from cause inside chain =
      let by = valid.in_time p inside in
      let early : from + (process_at i p).wcet ≤ must_end_by i p = omega (arith, chain-le i plan w valid p _ chain, by.0, by.1) in
      rw (le-leb _ _ early) refl

  released : (p : ℕ) → p < length i.processes → released_late i p ≡ []
  released p inside = in_time p (process_at i p).release Release inside (one p inside)

  linked : (l : ℕ) → l < length i.links → linked_late i ends l ≡ []
  linked l inside =
      let before = (link_at i l).before in
      let after = (link_at i l).after in
      let both = w.indices (AtLink l) inside in
      let chain = by_link before after (slice_index ends before) (longest.each before both.0).reached
      (record { link = l; is_there = inside; before = refl; after = refl }) in
      in_time after (slice_index ends before) (Link l) both.1 chain

  arrived : (m : ℕ) → m < length i.messages → receivers_late i ends m ≡ []
  arrived m inside =
      let sender = (message_at i m).sender in
      let receivers = (message_at i m).receivers in
      let both = w.indices (AtMessage m) inside in
      none_listed (arrived_late i m (there_at i ends m)) receivers (λ k there.
      let q = slice_index receivers k in
      let chain = by_message sender q (slice_index ends sender) (longest.each sender both.0).reached
      (record { message = m; is_there = inside; sender = refl; receiver = Contains-get_or receivers k 0 there }) in
      in_time q (there_at i ends m) (Arrival m) (both.1 k 0 there) chain)

  none_late : late_parts i ends ≡ []
  none_late =
      let releases = none_from (released_late i) 0 (length i.processes) (λ p inside. released p (omega (arith, inside))) in
      let links = none_from (linked_late i ends) 0 (length i.links) (λ l inside. linked l (omega (arith, inside))) in
      let arrivals = none_from (receivers_late i ends) 0 (length i.messages) (λ m inside. arrived m (omega (arith, inside))) in
      rw (releases, links, arrivals) refl

pub none_valid : (i : Instance) (ends : List ℕ) → IsInstance i → AreLongest i ends → late_parts i ends ≢ [] → HasNoPlan i
none_valid i ends w longest some plan valid = some (none_late i ends w longest plan valid)
