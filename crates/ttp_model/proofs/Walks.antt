-- Chains have each process once, so they are few, and one adds up to the most.
use Rattle.std.proofs.Common.{◌≡◌, ℕ, zero, suc, ◌+◌, ◌-◌, ◌<◌, ◌≤◌, List, [], ◌∷◌, ◌++◌, length, take, drop, slice_index, Contains, arith, inl, inr, refl, ap, subst, ◌∙◌, length-drop}
use Rattle.std.proofs.lemmas.Bool.{cases_eq}
use Rattle.std.proofs.lemmas.Grind.{common_steps}
use Rattle.std.proofs.lemmas.List.{get_or-take, get_or-drop, length-take-le}
use Rattle.std.proofs.lemmas.List.Elements.{All-contains}
use Rattle.ttp_model.specs.declared.error.Place.TheVariants.{AtLink, AtMessage}
use Rattle.ttp_model.specs.Lists.{HasNoRepeats}
use Rattle.ttp_model.specs.Instance.{Instance, process_at, node_of, link_at, message_at}
use Rattle.ttp_model.specs.Rules.{IsInstance, IsProcess}
use Rattle.ttp_model.specs.Graph.{HasLink, HasMessage, Leads, IsClosedWalk}
use Rattle.ttp_model.specs.Chains.{ChainEnds, one, by_link, by_message, least_transfer, IsPathBound}
use Rattle.ttp_model.specs.Raising.{IsRaised}
use Rattle.ttp_model.specs.Walks.{Chain, first, on_link, on_message}
use Rattle.ttp_model.proofs.Decide.{equal, contained}
use Rattle.ttp_model.proofs.Orders.{different_few}
use Rattle.ttp_model.proofs.Paths.{Leads_as}
use Rattle.ttp_model.proofs.Raising.{raised_of}
use Rattle.ttp_model.proofs.ValidPlans.{greatest_each, greatest_reached}

first_part : (xs ys : List ℕ) (j : ℕ) → j < length xs → slice_index (xs ++ ys) j ≡ slice_index xs j
first_part xs ys j h = grind (arith, common_steps)

last_part : (xs : List ℕ) (y : ℕ) (j : ℕ) → j ≡ length xs → slice_index (xs ++ y ∷ []) j ≡ y
last_part xs y j h = grind (arith, common_steps)

-- the processes of a chain, in their order
record Walk (i : Instance) (n p : ℕ) : Type 0 where
  pub ps : List ℕ
  pub count : length ps ≡ n
  pub some : 1 ≤ n
  pub last : slice_index ps (n - 1) ≡ p
  pub inside : (k : ℕ) → k < n → slice_index ps k < length i.processes
  pub each : (k : ℕ) → k + 1 < n → Leads i (slice_index ps k) (slice_index ps (k + 1))

walk_one : (i : Instance) (p : ℕ) → p < length i.processes → Walk i 1 p
walk_one i p inside = record {
  ps = p ∷ [];
  count = refl;
  some = omega arith;
  last = refl;
  inside = λ k h. let same : k ≡ 0 = omega arith in rw same inside;
  each = λ k h. absurd (omega arith);
}

walk_more : (i : Instance) (n p q : ℕ) → Walk i n p → Leads i p q → q < length i.processes → Walk i (suc n) q
walk_more i n p q walk leads inside =
    let old = λ (k : ℕ) (h : k < n). first_part walk.ps (q ∷ []) k (omega (arith, h, walk.count)) in
    let new = λ (k : ℕ) (h : k ≡ n). last_part walk.ps q k (omega (arith, h, walk.count)) in
    record {
      ps = walk.ps ++ q ∷ [];
      count = grind (arith, common_steps, walk.count);
      some = omega arith;
      last = new (suc n - 1) (omega arith);
      inside = λ k h. elim (cases_eq k n) [
        | inl same ↦ omega (arith, new k same, inside)
        | inr other ↦ omega (arith, old k (omega (arith, h, other)), walk.inside k (omega (arith, h, other)))
      ];
      each = λ k h. elim (cases_eq (k + 1) n) [
        | inl same ↦
            let here : slice_index walk.ps k ≡ p = ap (slice_index walk.ps) (let e : k ≡ n - 1 = omega (arith, same) in e) ∙ walk.last in
            Leads_as i _ _ p q (old k (omega (arith, same)) ∙ here) (new (k + 1) same) leads
        | inr other ↦ Leads_as i _ _ _ _ (old k (omega (arith, h, other))) (old (k + 1) (omega (arith, h, other))) (walk.each k (omega (arith, h, other)))
      ];
    }

-- a chain has some process
pub chain_some : (i : Instance) (n p time : ℕ) → Chain i n p time → 1 ≤ n
chain_some i _ _ _ (first p inside) = omega arith
chain_some i _ _ _ (on_link n p q time chain link) = omega arith
chain_some i _ _ _ (on_message n p q time chain message) = omega arith

pub to_chain : (i : Instance) (p time : ℕ) → ChainEnds i p time → (n : ℕ) × Chain i n p time
to_chain i _ _ (one p inside) = (1, first p inside)
to_chain i _ _ (by_link p q time chain link) = let rest = to_chain i p time chain in (suc rest.0, on_link rest.0 p q time rest.1 link)
to_chain i _ _ (by_message p q time chain message) = let rest = to_chain i p time chain in (suc rest.0, on_message rest.0 p q time rest.1 message)

module _ (i : Instance) (w : IsInstance i) where
  pub link_inside : (p q : ℕ) → HasLink i p q → q < length i.processes
  link_inside p q link = rw (← link.after) (w.indices (AtLink link.link) link.is_there).1

  pub message_inside : (p q : ℕ) → HasMessage i p q → q < length i.processes
  message_inside p q message = All-contains (IsProcess i) (message_at i message.message).receivers q (w.indices (AtMessage message.message) message.is_there).1 message.receiver

  walk_of : (n p time : ℕ) → Chain i n p time → Walk i n p
  walk_of _ _ _ (first p inside) = walk_one i p inside
  walk_of _ _ _ (on_link n p q time chain link) = walk_more i n p q (walk_of n p time chain) (inl link) (link_inside p q link)
  walk_of _ _ _ (on_message n p q time chain message) = walk_more i n p q (walk_of n p time chain) (inr message) (message_inside p q message)

  -- the part of a chain between two places where one process stands is a ring
  ring_at : (ps : List ℕ) (j k x y : ℕ) → x < k - j → j + x ≡ y → slice_index (take (k - j) (drop j ps)) x ≡ slice_index ps y
  ring_at ps j k x y h is = get_or-take (k - j) (drop j ps) x 0 h ∙ get_or-drop j ps x 0 ∙ ap (slice_index ps) is

  ring_closed : (n p j k : ℕ) (walk : Walk i n p) → j < k → k < n → slice_index walk.ps j ≡ slice_index walk.ps k → IsClosedWalk i (take (k - j) (drop j walk.ps))
  ring_closed n p j k walk below up same =
      let size : length (take (k - j) (drop j walk.ps)) ≡ k - j = length-take-le (k - j) (drop j walk.ps) (omega (arith, length-drop j walk.ps, walk.count)) in
      let last : k ≡ k - 1 + 1 = omega arith in
      record {
        some = omega (arith, size);
        each = λ x h. Leads_as i _ _ _ _ (ring_at walk.ps j k x (j + x) (omega (arith, h, size)) refl) (ring_at walk.ps j k (x + 1) (j + x + 1) (omega (arith, h, size)) (omega arith)) (walk.each (j + x) (omega (arith, h, size)));
        closes = Leads_as i _ _ _ _ (ring_at walk.ps j k (length (take (k - j) (drop j walk.ps)) - 1) (k - 1) (omega (arith, size)) (omega (arith, size))) (ring_at walk.ps j k 0 j (omega arith) (omega arith) ∙ same ∙ ap (slice_index walk.ps) last) (walk.each (k - 1) (omega arith));
      }

  -- a process that stands twice would wait for itself
  no_repeats : (n p : ℕ) (walk : Walk i n p) → HasNoRepeats walk.ps
  no_repeats n p walk j k below up same = w.acyclic (take (k - j) (drop j walk.ps)) (ring_closed n p j k walk below (omega (arith, up, walk.count)) same)

  pub chain_few : (n p time : ℕ) → Chain i n p time → n ≤ length i.processes
  chain_few n p time chain =
      let walk = walk_of n p time chain in
      let few = different_few (length i.processes) walk.ps (λ k h. walk.inside k (omega (arith, h, walk.count))) (no_repeats n p walk) in
      omega (arith, few, walk.count)

  pub chain_inside : (n p time : ℕ) → Chain i n p time → p < length i.processes
  chain_inside _ _ _ (first p inside) = inside
  chain_inside _ _ _ (on_link n p q time chain link) = link_inside p q link
  chain_inside _ _ _ (on_message n p q time chain message) = message_inside p q message

-- by process the greatest sum along chains of at most so many processes
record AreMost (i : Instance) (count : ℕ) (ends : ℕ → ℕ) : Type 0 where
  pub reached : (p : ℕ) → p < length i.processes → ChainEnds i p (ends p)
  pub greatest : (n p time : ℕ) → n ≤ count → Chain i n p time → time ≤ ends p

module _ (i : Instance) (w : IsInstance i) where
  alone : AreMost i 1 (λ p. (process_at i p).release + (process_at i p).wcet)
  alone = record { reached = one; greatest = at_most }
    where
      at_most : (n p time : ℕ) → n ≤ 1 → Chain i n p time → time ≤ (process_at i p).release + (process_at i p).wcet
      at_most _ _ _ le (first p inside) = omega arith
      at_most _ _ _ le (on_link n p q time chain link) = absurd (omega (arith, le, chain_some i n p time chain))
      at_most _ _ _ le (on_message n p q time chain message) = absurd (omega (arith, le, chain_some i n p time chain))

  -- chains of one process more
  module _ (count : ℕ) (ends : ℕ → ℕ) (some : 1 ≤ count) (are : AreMost i count ends) where
    linked : (q : ℕ) → (time : ℕ) × IsRaised (length i.links) (λ l. (link_at i l).after ≡ q) (λ l. ends (link_at i l).before + (process_at i q).wcet) (ends q) time
    linked q = raised_of (λ l. (link_at i l).after ≡ q) (λ l. ends (link_at i l).before + (process_at i q).wcet) (ends q) (length i.links) (λ l. equal _ _)

    sent : (q : ℕ) → (time : ℕ) × IsRaised (length i.messages) (λ m. Contains (message_at i m).receivers q) (λ m. ends (message_at i m).sender + least_transfer i (node_of i (message_at i m).sender) + (process_at i q).wcet) (linked q).0 time
    sent q = raised_of (λ m. Contains (message_at i m).receivers q) (λ m. ends (message_at i m).sender + least_transfer i (node_of i (message_at i m).sender) + (process_at i q).wcet) (linked q).0 (length i.messages) (λ m. contained _ _)

    next : ℕ → ℕ
    next q = (sent q).0

    linked_chain : (q : ℕ) → q < length i.processes → ChainEnds i q (linked q).0
    linked_chain q inside = elim (linked q).1.met [
      | inl same ↦ rw same (are.reached q inside)
      | inr by ↦
          let before = (link_at i by.0).before in
          let there = (w.indices (AtLink by.0) by.1).0 in
          subst (ChainEnds i q) by.2.1 (by_link before q (ends before) (are.reached before there) (record { link = by.0; is_there = by.1; before = refl; after = by.2.0 }))
    ]

    next_chain : (q : ℕ) → q < length i.processes → ChainEnds i q (next q)
    unfolding next
    next_chain q inside = elim (sent q).1.met [
      | inl same ↦ rw same (linked_chain q inside)
      | inr by ↦
          let sender = (message_at i by.0).sender in
          let there = (w.indices (AtMessage by.0) by.1).0 in
          subst (ChainEnds i q) by.2.1 (by_message sender q (ends sender) (are.reached sender there) (record { message = by.0; is_there = by.1; sender = refl; receiver = by.2.0 }))
    ]

    next_most : (n p time : ℕ) → n ≤ suc count → Chain i n p time → time ≤ next p
    unfolding next
    next_most _ _ _ le (first p inside) = omega (arith, are.greatest 1 p _ some (first p inside), (linked p).1.least, (sent p).1.least)
    next_most _ _ _ le (on_link n p q time chain link) = omega (arith, are.greatest n p time (omega (arith, le)) chain, (linked q).1.each link.link link.is_there link.after, ap ends link.before, (sent q).1.least)
    next_most _ _ _ le (on_message n p q time chain message) =
        let reach = (sent q).1.each message.message message.is_there message.receiver in
        omega (arith, are.greatest n p time (omega (arith, le)) chain, reach, ap ends message.sender, ap (λ k. least_transfer i (node_of i k)) message.sender)

    one_longer : AreMost i (suc count) next
    one_longer = record { reached = next_chain; greatest = next_most }

  most : (k : ℕ) → (ends : ℕ → ℕ) × AreMost i (suc k) ends
  most zero = (_, alone)
  most (suc k) = let rest = most k in (next (suc k) rest.0 (omega arith) rest.1, one_longer (suc k) rest.0 (omega arith) rest.1)

  -- each instance has a path bound
  pub path_bound_some : (bound : ℕ) × IsPathBound i bound
  path_bound_some =
      let ends = most (length i.processes) in
      let last = greatest_reached ends.0 (length i.processes) (omega (arith, w.limits.processes_least)) in (
        ends.0 last.0,
        record {
          last = last.0;
          reached = ends.1.reached last.0 last.1;
          greatest = λ p time chain.
              let counted = to_chain i p time chain in
              let few = chain_few i w counted.0 p time counted.1 in
              let inside = chain_inside i w counted.0 p time counted.1 in
              omega (arith, ends.1.greatest counted.0 p time (omega (arith, few)) counted.1, greatest_each ends.0 (length i.processes) p inside, last.2);
        },
      )
