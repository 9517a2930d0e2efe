-- Chains are few, so that one that no other exceeds can be found.
use Rattle.std.proofs.Common.{Contains, subst, ◌≡◌, ℕ, ◌+◌, ◌*◌, ◌^◌, ◌<◌, ◌≤◌, max, List, length, slice_index, slice_set, get_or, arith, inl, inr, refl, ap, sym, ◌∙◌, get_or-set_same, get_or-set_other, length-set}
use Rattle.std.proofs.Math.Nat.{mul-le-mul}
use Rattle.std.proofs.lemmas.Bool.{cases_eq}
use Rattle.std.proofs.lemmas.Grind.{get_or_default_zero}
use Rattle.std.proofs.lemmas.List.Elements.{Contains-get_or}
use Rattle.ttp_model.specs.declared.error.Place.TheVariants.{AtCluster, AtProcess, AtLink, AtMessage}
use Rattle.ttp_model.specs.declared.limits.TheConstants.{MOST_BUS_TICKS, MOST_BYTES, MOST_DURATION, MOST_PER_BYTE, MOST_TICKS}
use Rattle.ttp_model.specs.declared.parts.Link.{Link}
use Rattle.ttp_model.specs.Instance.{Instance, process_at, node_at, node_of, link_at, message_at}
use Rattle.ttp_model.specs.Rules.{IsInstance}
use Rattle.ttp_model.specs.Graph.{HasLink, HasMessage}
use Rattle.ttp_model.specs.Chains.{ChainEnds, one, by_link, by_message, least_transfer, least_duration, IsPathBound}
use Rattle.ttp_model.specs.Walks.{Chain, first, on_link, on_message}
use Rattle.ttp_model.proofs.Walks.{link_inside, message_inside, chain_some, chain_few, chain_inside, to_chain}
use Rattle.plan_facts.specs.Longest.{AreLongest}
use Rattle.plan_facts.specs.Walks.{AreChainEnds, AreEnds, AreKept}

-- the least time of a transfer: a slot between two copies
abbrev pub most_transfer : ℕ
most_transfer = MOST_DURATION + 2 * MOST_BUS_TICKS

module _ (i : Instance) (w : IsInstance i) where
  least_duration_small : (n : ℕ) → n < length i.nodes → least_duration i n ≤ MOST_DURATION
  least_duration_small n inside =
      let list = w.capacities n inside in
      let ranges = w.ranges AtCluster in
      let small : slice_index (node_at i n).capacities 0 ≤ MOST_BYTES = list.small 0 0 (omega (arith, list.some)) in
      let bytes = mul-le-mul {n₁ = i.cluster.per_byte} {m₁ = slice_index (node_at i n).capacities 0} {n₂ = MOST_PER_BYTE} {m₂ = MOST_BYTES}
      ranges.per_byte small in
      omega (arith, bytes, ranges.lead, ranges.head, ranges.trail)

  pub transfer_small : (n : ℕ) → n < length i.nodes → least_transfer i n ≤ most_transfer
  transfer_small n inside = omega (arith, least_duration_small n inside, (w.ranges AtCluster).copy_out, (w.ranges AtCluster).copy_in)

  wcet_small : (p : ℕ) → p < length i.processes → (process_at i p).wcet ≤ MOST_TICKS
  wcet_small p inside = ((w.ranges (AtProcess p)) inside).wcet

  chain_time : (n p time : ℕ) → Chain i n p time → time ≤ MOST_TICKS + n * (most_transfer + MOST_TICKS)
  chain_time _ _ _ (first p inside) = omega (arith, wcet_small p inside, ((w.ranges (AtProcess p)) inside).release)
  chain_time _ _ _ (on_link n p q time chain link) = omega (arith, chain_time n p time chain, wcet_small q (link_inside i w p q link))
  chain_time _ _ _ (on_message n p q time chain message) =
      let node = w.indices (AtProcess p) (chain_inside i w n p time chain) in
      omega (arith, chain_time n p time chain, wcet_small q (message_inside i w p q message), transfer_small (node_of i p) node)

  pub chain_small : (p time : ℕ) → ChainEnds i p time → time < 2 ^ 32
  chain_small p time chain =
      let counted = to_chain i p time chain in
      omega (arith, chain_time counted.0 p time counted.1, chain_few i w counted.0 p time counted.1, w.limits.processes)

  -- Times that rise along links and messages.
  pub ends_raised : (ends : List ℕ) (q time : ℕ) → q < length i.processes → ChainEnds i q time → AreChainEnds i ends
      → AreChainEnds i (slice_set ends q (max (slice_index ends q) time))
  ends_raised ends q time inside chain are = record {
    all = length-set _ _ _ ∙ are.all;
    reached = λ p h. elim (cases_eq p q) [
      | inl same ↦ rw (same, get_or-set_same ends q (max (slice_index ends q) time) 0 (omega (arith, inside, are.all)))
          (higher (slice_index ends q) (are.reached q inside))
      | inr other ↦ rw (get_or-set_other ends q p (max (slice_index ends q) time) 0 other) (are.reached p h)
    ];
  }
    where
      higher : (end : ℕ) → ChainEnds i q end → ChainEnds i q (max end time)
      higher end old = elim (cases_eq (max end time) end) [
        | inl same ↦ rw same old
        | inr other ↦ let is : max end time ≡ time = omega (arith, other) in rw is chain
      ]

  pub raised_kept : (ends : List ℕ) (q time p : ℕ) → q < length ends → slice_index ends p ≤ slice_index (slice_set ends q (max (slice_index ends q) time)) p
  raised_kept ends q time p inside = elim (cases_eq p q) [
    | inl same ↦ rw same (omega (arith, get_or-set_same ends q (max (slice_index ends q) time) 0 inside))
    | inr other ↦ omega (arith, get_or-set_other ends q p (max (slice_index ends q) time) 0 other)
  ]

  pub raised_reach : (ends : List ℕ) (q time : ℕ) → q < length ends → time ≤ slice_index (slice_set ends q (max (slice_index ends q) time)) q
  raised_reach ends q time inside = omega (arith, get_or-set_same ends q (max (slice_index ends q) time) 0 inside)

  pub ends_first : (ends : List ℕ) → length ends ≡ length i.processes
      → ((p : ℕ) → p < length i.processes → slice_index ends p ≡ (process_at i p).release + (process_at i p).wcet) → AreEnds i 1 ends
  ends_first ends all each = record {
    chains = record { all = all; reached = λ p h. rw (each p h) (one p h) };
    greatest = at_most;
  }
    where
      at_most : (n p time : ℕ) → n ≤ 1 → Chain i n p time → time ≤ slice_index ends p
      at_most _ _ _ le (first p inside) = omega (arith, each p inside)
      at_most _ _ _ le (on_link n p q time chain link) = absurd (omega (arith, le, chain_some i n p time chain))
      at_most _ _ _ le (on_message n p q time chain message) = absurd (omega (arith, le, chain_some i n p time chain))

  pub ends_next : (count : ℕ) (ends between new : List ℕ) → 1 ≤ count → AreEnds i count ends → AreChainEnds i new → AreKept ends between
      → ((p q : ℕ) → HasLink i p q → slice_index ends p + (process_at i q).wcet ≤ slice_index between q) → AreKept between new
      → ((m q : ℕ) → m < length i.messages → Contains (message_at i m).receivers q
      → slice_index between (message_at i m).sender + least_transfer i (node_of i (message_at i m).sender) + (process_at i q).wcet ≤ slice_index new q)
      → AreEnds i (count + 1) new
  ends_next count ends between new some are chains kept links later messages = record { chains = chains; greatest = at_most }
    where
      at_most : (n p time : ℕ) → n ≤ count + 1 → Chain i n p time → time ≤ slice_index new p
      at_most _ _ _ le (first p inside) = omega (arith, are.greatest 1 p _ some (first p inside), kept p, later p)
      at_most _ _ _ le (on_link n p q time chain link) = omega (arith, are.greatest n p time (omega (arith, le)) chain, links p q link, later q)
      at_most _ _ _ le (on_message n p q time chain message) =
          let sent : slice_index between p + least_transfer i (node_of i p) + (process_at i q).wcet ≤ slice_index new q = rw (← message.sender)
          (messages message.message q message.is_there message.receiver) in
          omega (arith, are.greatest n p time (omega (arith, le)) chain, kept p, sent)

  pub longest_found : (ends : List ℕ) (count : ℕ) → length i.processes ≤ count → AreEnds i count ends → AreLongest i ends
  longest_found ends count all are = record {
    all = are.chains.all;
    each = λ p inside. record {
      reached = are.chains.reached p inside;
      greatest = λ time chain.
          let counted = to_chain i p time chain in
          omega (arith, are.greatest counted.0 p time (omega (arith, chain_few i w counted.0 p time counted.1, all)) counted.1);
    };
  }

  pub bound_found : (ends : List ℕ) (k bound : ℕ) → AreLongest i ends → k < length ends → slice_index ends k ≡ bound
      → ((p : ℕ) → slice_index ends p ≤ bound) → IsPathBound i bound
  bound_found ends k bound are inside is greatest = record {
    last = k;
    reached = rw (← is) ((are.each k (omega (arith, inside, are.all))).reached);
    greatest = λ p time chain.
        let counted = to_chain i p time chain in
        omega (arith, (are.each p (chain_inside i w counted.0 p time counted.1)).greatest time chain, greatest p);
  }

  -- a time that is read
  pub end_small : (ends : List ℕ) (p end : ℕ) → AreChainEnds i ends → p < length i.processes → end ≡ get_or ends p end
      → (end < 2 ^ 32) × (end ≡ slice_index ends p)
  end_small ends p end are inside is =
      let same : end ≡ slice_index ends p = is ∙ get_or_default_zero ends p end (omega (arith, inside, are.all)) in
      (omega (arith, same, chain_small p (slice_index ends p) (are.reached p inside)), same)

  pub link_ends_inside : (l : ℕ) → l < length i.links → ((link_at i l).before < length i.processes) × ((link_at i l).after < length i.processes)
  link_ends_inside l h = w.indices (AtLink l) h

  -- one more link is followed
  pub link_followed : (begun ends new : List ℕ) (l : ℕ) (link : Link) (end wcet : ℕ) → l < length i.links → link ≡ link_at i l → AreChainEnds i ends
      → AreKept begun ends
      → ((k : ℕ) → k < l → slice_index begun (link_at i k).before + (process_at i (link_at i k).after).wcet ≤ slice_index ends (link_at i k).after)
      → end ≡ slice_index ends link.before → wcet ≡ (process_at i link.after).wcet
      → new ≡ slice_set ends link.after (max (slice_index ends link.after) (end + wcet))
      → AreChainEnds i new × AreKept begun new × ((k : ℕ) → k < l + 1
      → slice_index begun (link_at i k).before + (process_at i (link_at i k).after).wcet ≤ slice_index new (link_at i k).after)
  link_followed begun ends new l link end wcet inside is are kept reach read long made =
      let before = ap (λ (x : Link). x.before) (sym is) in
      let after = ap (λ (x : Link). x.after) (sym is) in
      let has : HasLink i link.before link.after = record { link = l; is_there = inside; before = before; after = after } in
      let before_in : link.before < length i.processes = rw is (link_ends_inside l inside).0 in
      let after_in : link.after < length i.processes = rw is (link_ends_inside l inside).1 in
      let there : link.after < length ends = omega (arith, after_in, are.all) in
      let chain : ChainEnds i link.after (end + wcet) = rw (read, long)
      (by_link link.before link.after (slice_index ends link.before) (are.reached link.before before_in) has) in
      let reached = raised_reach ends link.after (end + wcet) there in
      rw made (
        ends_raised ends link.after (end + wcet) after_in chain are,
        (λ p. omega (arith, kept p, raised_kept ends link.after (end + wcet) p there)),
        (λ k h. elim (cases_eq k l) [
          | inl same ↦ rw (same, ← is) (omega (arith, kept link.before, reached, read, long))
          | inr other ↦ omega (arith, reach k (omega (arith, h, other)), raised_kept ends link.after (end + wcet) (link_at i k).after there)
        ]),
      )

  receiver_in : (m k : ℕ) → m < length i.messages → k < length (message_at i m).receivers → slice_index (message_at i m).receivers k < length i.processes
  receiver_in m k inside there = (w.indices (AtMessage m) inside).1 k 0 there

  -- one more receiver is followed
  pub receiver_followed : (begun ends new : List ℕ) (m k start arrival wcet : ℕ) → m < length i.messages → k < length (message_at i m).receivers
      → ChainEnds i (message_at i m).sender start → arrival ≡ start + least_transfer i (node_of i (message_at i m).sender) → AreChainEnds i ends
      → AreKept begun ends → ((j : ℕ) → j < k
      → arrival + (process_at i (slice_index (message_at i m).receivers j)).wcet ≤ slice_index ends (slice_index (message_at i m).receivers j))
      → wcet ≡ (process_at i (slice_index (message_at i m).receivers k)).wcet
      → new ≡ slice_set ends (slice_index (message_at i m).receivers k)
      (max (slice_index ends (slice_index (message_at i m).receivers k)) (arrival + wcet))
      → AreChainEnds i new × AreKept begun new × ((j : ℕ) → j < k + 1
      → arrival + (process_at i (slice_index (message_at i m).receivers j)).wcet ≤ slice_index new (slice_index (message_at i m).receivers j))
  receiver_followed begun ends new m k start arrival wcet inside place begins is are kept reach long made =
      let q = slice_index (message_at i m).receivers k in
      let receives = Contains-get_or (message_at i m).receivers k 0 place in
      let has : HasMessage i (message_at i m).sender q = record { message = m; is_there = inside; sender = refl; receiver = receives } in
      let q_in = receiver_in m k inside place in
      let there : q < length ends = omega (arith, q_in, are.all) in
      let chain : ChainEnds i q (arrival + wcet) = rw (is, long) (by_message (message_at i m).sender q start begins has) in
      let reached = raised_reach ends q (arrival + wcet) there in
      rw made (
        ends_raised ends q (arrival + wcet) q_in chain are,
        (λ p. omega (arith, kept p, raised_kept ends q (arrival + wcet) p there)),
        (λ j h. elim (cases_eq j k) [
          | inl same ↦ rw same (omega (arith, reached, long))
          | inr other ↦ omega (arith, reach j (omega (arith, h, other)), raised_kept ends q (arrival + wcet) (slice_index (message_at i m).receivers j) there)
        ]),
      )

-- what holds at each place holds of each number
pub from_places : (P : ℕ → Type 0) (xs : List ℕ) → ((k : ℕ) → k < length xs → P (slice_index xs k)) → (q : ℕ) → Contains xs q → P q
from_places P xs each q has =
    let here : slice_index xs has.0 ≡ q = sym (get_or_default_zero xs has.0 q has.1) ∙ has.2 in
    subst P here (each has.0 has.1)

-- the greatest of numbers, with one more
pub max_reached : (xs : List ℕ) (n best : ℕ) → n < length xs → ((k : ℕ) × (k < length xs) × (slice_index xs k ≡ best))
    → (k : ℕ) × (k < length xs) × (slice_index xs k ≡ max best (slice_index xs n))
max_reached xs n best inside old = elim (cases_eq (max best (slice_index xs n)) best) [
  | inl same ↦ (old.0, old.1, old.2 ∙ sym same)
  | inr other ↦ (n, inside, (let e : slice_index xs n ≡ max best (slice_index xs n) = omega (arith, other) in e))
]
