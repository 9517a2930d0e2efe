-- What is known where steps sharpen nothing: what they conclude is known already.
use Rattle.std.proofs.Common.{◌≡◌, ℕ, ◌+◌, ◌-◌, ◌<◌, ◌≤◌, min, max, List, length, slice_index, All, Contains, IsFalse, arith, inl, inr, refl, ap, sym, ◌∙◌, get_or-set_same}
use Rattle.std.proofs.lemmas.Bool.{cases_lt, both_ways}
use Rattle.std.proofs.lemmas.List.Elements.{All-contains}
use Rattle.ttp_model.specs.declared.error.Place.TheVariants.{AtProcess, AtLink, AtMessage}
use Rattle.ttp_model.specs.declared.step.Step.{Step}
use Rattle.ttp_model.specs.declared.step.Step.TheVariants.{EsRelease, EsLink, EsMessage, LeOwn, XWindow}
use Rattle.ttp_model.specs.Instance.{Instance, process_at, message_at, link_at, node_at, node_of, source_of}
use Rattle.ttp_model.specs.Rules.{IsProcess}
use Rattle.ttp_model.specs.Graph.{HasLink, HasMessage}
use Rattle.ttp_model.specs.Chains.{ChainEnds, one, by_link, by_message, IsPathBound, least_duration}
use Rattle.ttp_model.proofs.Times.{slot_duration-le, first-le}
use Rattle.std.specs.List.Sorted.{IsStrictlyIncreasing}
use Rattle.std.proofs.lemmas.Grind.{get_or_default_zero}
use Rattle.std.proofs.Common.{Option, None, Some}
use Rattle.tt_choice.specs.Choice.{Choice, IsOption, fixed_cap}
use Rattle.tt_choice.specs.Extremes.{least_option, dur_least}
use Rattle.tt_infer.specs.Known.{Known, es_of, le_of, first_facts}
use Rattle.tt_infer.specs.Conclusions.{Conclusion, StartsFrom, EndsUntil, NothingLeft, sharpened, capped}
use Rattle.tt_infer.specs.Facts.{Facts, AreFacts}
use Rattle.tt_infer.specs.Premises.{GoesTo, least_end}
use Rattle.tt_infer.specs.Table.{rule}
use Rattle.step_logs.specs.Journal.{Journal, Advances, SharpensNothing}
use Rattle.step_logs.specs.Required.{HasChainSteps}

-- the least capacity of a choice is no less than the first option
least_option-ge : (i : Instance) (n : ℕ) (o : Option ℕ) → IsStrictlyIncreasing (node_at i n).capacities → IsOption i n o → slice_index (node_at i n).capacities 0 ≤ least_option i n o
least_option-ge i n None rising is = omega arith
least_option-ge i n (Some fixed) rising is =
    let xs = (node_at i n).capacities in
    let here : slice_index xs is.0 ≡ fixed = sym (get_or_default_zero xs is.0 fixed is.1) ∙ is.2 in
    omega (arith, here, first-le xs rising is.0 is.1)

module _ (s : Facts) (ok : AreFacts s) (left : IsFalse s.known.closed) where
  -- a lawful step that is idle concludes nothing new
  pub same_after : (step : Step) (k : Conclusion) → SharpensNothing s step → (rule s.instance s.choice s.goal s.known step).there → (rule s.instance s.choice s.goal s.known step).premise → (rule s.instance s.choice s.goal s.known step).concludes k → sharpened s.instance s.known k ≡ s.known
  same_after step k idle there premise concludes =
      idle.leaves left (sharpened s.instance s.known k) (record { there = there; premise = premise; conclusion = k; concludes = concludes; known = refl })

  pub started : (q time : ℕ) → q < length s.instance.processes → sharpened s.instance s.known (StartsFrom q time) ≡ s.known → capped s.instance time ≤ es_of s.known q
  started q time inside same =
      let is = ap (λ (k : Known). es_of k q) same in
      let here = get_or-set_same s.known.es q (max (es_of s.known q) (capped s.instance time)) 0 (omega (arith, ok.fits.es, inside)) in
      omega (arith, is, here)

  pub ended : (p time : ℕ) → p < length s.instance.processes → sharpened s.instance s.known (EndsUntil p time) ≡ s.known → le_of s.known p ≤ time
  ended p time inside same =
      let is = ap (λ (k : Known). le_of k p) same in
      let here = get_or-set_same s.known.le p (min (le_of s.known p) time) 0 (omega (arith, ok.fits.le, inside)) in
      omega (arith, is, here)

  pub not_closed : sharpened s.instance s.known NothingLeft ≡ s.known → ⊥
  not_closed same = both_ways _ left (sym (ap (λ (k : Known). k.closed) same))

  module _ (steps : List Step) (has : HasChainSteps s.instance steps) (idle : All (SharpensNothing s) steps) where
    idle_of : (step : Step) → Contains steps step → SharpensNothing s step
    idle_of step there = All-contains (SharpensNothing s) steps step idle there

    pub window : (p : ℕ) → p < length s.instance.processes → least_end s.instance s.known p ≤ le_of s.known p
    window p inside = elim (cases_lt (le_of s.known p) (least_end s.instance s.known p)) [
      | inl over ↦ absurd (not_closed (same_after (XWindow p) NothingLeft (idle_of _ (has.processes p inside).window) inside over refl))
      | inr fits ↦ fits
    ]

    pub own : (p : ℕ) → p < length s.instance.processes → le_of s.known p ≤ min (min (process_at s.instance p).deadline s.instance.cluster.horizon) (s.goal - 1)
    own p inside = ended p _ inside (same_after (LeOwn p) _ (idle_of _ (has.processes p inside).end) inside tt refl)

    -- nothing starts past the horizon, so that times are known as they are
    pub from : (q time : ℕ) → q < length s.instance.processes → sharpened s.instance s.known (StartsFrom q time) ≡ s.known → time ≤ es_of s.known q
    from q time inside same = omega (arith, started q time inside same, window q inside, own q inside, ((ok.instance.ranges (AtProcess q)) inside).wcet_least)

    pub released : (p : ℕ) → p < length s.instance.processes → (process_at s.instance p).release ≤ es_of s.known p
    released p inside = from p _ inside (same_after (EsRelease p) _ (idle_of _ (has.processes p inside).release) inside tt refl)

    pub linked : (l : ℕ) → l < length s.instance.links → least_end s.instance s.known (link_at s.instance l).before ≤ es_of s.known (link_at s.instance l).after
    linked l inside = from _ _ (ok.instance.indices (AtLink l) inside).1 (same_after (EsLink l) _ (idle_of _ (has.links l inside)) inside tt refl)

    pub receiver_inside : (m q : ℕ) → GoesTo s.instance m q → q < length s.instance.processes
    receiver_inside m q receives = All-contains (IsProcess s.instance) (message_at s.instance m).receivers q ((ok.instance.indices (AtMessage m)) receives.0).1 receives.1

    sent : (m q : ℕ) → GoesTo s.instance m q → least_end s.instance s.known (message_at s.instance m).sender + s.instance.cluster.copy_out + dur_least s.instance s.choice (source_of s.instance m) + s.instance.cluster.copy_in ≤ es_of s.known q
    sent m q receives = from q _ (receiver_inside m q receives) (same_after (EsMessage m q) _ (idle_of _ (has.messages m q receives).transfer) receives tt refl)

    least_duration-le : (n : ℕ) → n < length s.instance.nodes → least_duration s.instance n ≤ dur_least s.instance s.choice n
    least_duration-le n inside = slot_duration-le s.instance.cluster _ _ (least_option-ge s.instance n (fixed_cap s.choice n) (ok.instance.capacities n inside).rising (ok.choice.options n inside))

    link_le : (p q : ℕ) → HasLink s.instance p q → least_end s.instance s.known p ≤ es_of s.known q
    link_le p q link = rw (← link.before, ← link.after) (linked link.link link.is_there)

    message_le : (p q : ℕ) → HasMessage s.instance p q → least_end s.instance s.known p + s.instance.cluster.copy_out + least_duration s.instance (node_of s.instance p) + s.instance.cluster.copy_in ≤ es_of s.known q
    message_le p q message =
        let sender_inside = (ok.instance.indices (AtMessage message.message) message.is_there).0 in
        let node = ok.instance.indices (AtProcess (message_at s.instance message.message).sender) sender_inside in
        let slot = least_duration-le (source_of s.instance message.message) node in
        rw (← message.sender) (omega (arith, slot, sent message.message q (message.is_there, message.receiver)))

    -- no chain takes longer than until the earliest end of its last process
    chain_le : (p time : ℕ) → ChainEnds s.instance p time → time ≤ least_end s.instance s.known p
    chain_le _ _ (one p inside) = omega (arith, released p inside)
    chain_le _ _ (by_link p q before chain link) = omega (arith, chain_le p before chain, link_le p q link)
    chain_le _ _ (by_message p q before chain message) = omega (arith, chain_le p before chain, message_le p q message)

    chain_inside : (p time : ℕ) → ChainEnds s.instance p time → p < length s.instance.processes
    chain_inside _ _ (one p inside) = inside
    chain_inside _ _ (by_link p q before chain link) = rw (← link.after) (ok.instance.indices (AtLink link.link) link.is_there).1
    chain_inside _ _ (by_message p q before chain message) = receiver_inside message.message q (message.is_there, message.receiver)

    -- so the goal is above the path bound
    pub above : (bound : ℕ) → IsPathBound s.instance bound → bound < s.goal
    above bound is =
        let inside = chain_inside is.last bound is.reached in
        omega (arith, chain_le is.last bound is.reached, window is.last inside, own is.last inside, ((ok.instance.ranges (AtProcess is.last)) inside).wcet_least)

-- so it is of what a log comes to that began with the first facts
pub above_of : (i : Instance) (c : Choice) (goal : ℕ) (old new : Journal) (steps : List Step) → old.facts ≡ record { instance = i; choice = c; goal = goal; known = first_facts i c } → Advances old new → AreFacts new.facts → HasChainSteps i steps → All (SharpensNothing new.facts) steps → IsFalse new.facts.known.closed → (bound : ℕ) → IsPathBound i bound → bound < goal
above_of i c goal old new steps begins advances ok has idle left =
    let here : new.facts ≡ record { instance = i; choice = c; goal = goal; known = new.facts.known } = advances.facts ∙ ap (λ (s : Facts). record s { known = new.facts.known }) begins in
    let end : Facts = record { instance = i; choice = c; goal = goal; known = new.facts.known } in
    let kept : AreFacts end = rw (← here) ok in
    let still : All (SharpensNothing end) steps = rw (← here) idle in
    above end kept left steps has still
