-- Twins that exchange their starts: the plan stays valid.
use Rattle.std.proofs.Common.{◌≡◌, ℕ, ◌<◌, length, slice_index, arith, inl, inr, refl, subst, ◌∙◌, sym, Contains}
use Rattle.std.proofs.lemmas.List.Edits.{length-swap}
use Rattle.std.proofs.lemmas.List.Elements.{Contains-get_or}
use Rattle.ttp_model.specs.declared.plan.Plan.{Plan}
use Rattle.ttp_model.specs.Instance.{Instance, process_at, message_at, link_at, node_of}
use Rattle.ttp_model.specs.Graph.{HasLink, HasMessage}
use Rattle.ttp_model.specs.Rules.{IsInstance}
use Rattle.ttp_model.specs.Twins.{AreTwins}
use Rattle.ttp_model.specs.Plans.{IsValid, IsApartFromLater, KeepsLink, start_of, end_of}
use Rattle.ttp_model.specs.Moves.{swapped}
use Rattle.ttp_model.proofs.ValidPlans.{link_kept, two_apart}
use Rattle.tt_moves.proofs.Swaps.{Gets, swap_rest, gets_from, swap_at, gets_alike, gets_below, gets_apart}

pub swapped_valid : (i : Instance) (plan : Plan) (p q : ℕ) → IsInstance i → IsValid i plan → AreTwins i p q → IsValid i (swapped plan p q)
swapped_valid i plan p q w v twins = record {
  lengths = record { order = v.lengths.order; capacities = v.lengths.capacities; starts = length-swap plan.starts p q ∙ v.lengths.starts; rounds = v.lengths.rounds; channels = v.lengths.channels };
  order = v.order;
  capacities = v.capacities;
  released = λ k h. let j = gets_from p q k in omega (arith, starts k j.0 j.1, same_release k j.0 j.1, v.released j.0 (inside k j.0 h j.1));
  in_time = λ k h. let j = gets_from p q k in let was = v.in_time j.0 (inside k j.0 h j.1) in (omega (arith, ends k j.0 j.1, same_deadline k j.0 j.1, was), omega (arith, ends k j.0 j.1, was));
  apart = moved_apart;
  links = links;
  ready = λ m h. let free = swap_rest plan.starts p q (message_at i m).sender (λ is. twins.p_sends m h is) (λ is. twins.q_sends m h is) in_p in_q in omega (arith, v.ready m h, free);
  arrived = λ m h k lt. let free = swap_rest plan.starts p q (slice_index (message_at i m).receivers k) (λ is. twins.p_receives (message_at i m).sender (received m k p h lt is)) (λ is. twins.q_receives (message_at i m).sender (received m k q h lt is)) in_p in_q in omega (arith, v.arrived m h k lt, free);
  frames = v.frames;
  on_own = v.on_own;
}
  where
    in_p : p < length plan.starts
    in_p = omega (arith, twins.p_is, v.lengths.starts)

    in_q : q < length plan.starts
    in_q = omega (arith, twins.q_is, v.lengths.starts)

    received : (m k r : ℕ) → m < length i.messages → k < length (message_at i m).receivers → slice_index (message_at i m).receivers k ≡ r → HasMessage i (message_at i m).sender r
    received m k r h lt is = record { message = m; is_there = h; sender = refl; receiver = subst (Contains (message_at i m).receivers) is (Contains-get_or (message_at i m).receivers k 0 lt) }

    starts : (k j : ℕ) → Gets p q k j → start_of (swapped plan p q) k ≡ start_of plan j
    starts = swap_at plan.starts p q in_p in_q

    same_release : (k j : ℕ) → Gets p q k j → (process_at i k).release ≡ (process_at i j).release
    same_release = gets_alike (λ (k : ℕ). (process_at i k).release) p q twins.release

    same_deadline : (k j : ℕ) → Gets p q k j → (process_at i k).deadline ≡ (process_at i j).deadline
    same_deadline = gets_alike (λ (k : ℕ). (process_at i k).deadline) p q twins.deadline

    same_node : (k j : ℕ) → Gets p q k j → node_of i k ≡ node_of i j
    same_node = gets_alike (λ (k : ℕ). node_of i k) p q twins.node

    ends : (k j : ℕ) → Gets p q k j → end_of i (swapped plan p q) k ≡ end_of i plan j
    ends k j is = omega (arith, starts k j is, gets_alike (λ (k : ℕ). (process_at i k).wcet) p q twins.wcet k j is)

    inside : (k j : ℕ) → k < length i.processes → Gets p q k j → j < length i.processes
    inside = gets_below p q (length i.processes) twins.p_is twins.q_is

    moved_apart : (a : ℕ) → a < length i.processes → IsApartFromLater i (swapped plan p q) a
    moved_apart a ha b lt hb node =
        let x = gets_from p q a in
        let y = gets_from p q b in
        let one = sym (same_node a x.0 x.1) ∙ node ∙ same_node b y.0 y.1 in
        elim (two_apart i plan x.0 y.0 v (inside a x.0 ha x.1) (inside b y.0 hb y.1) (gets_apart p q twins.two a b x.0 y.0 (omega arith) x.1 y.1) one) [
          | inl first ↦ inl (omega (arith, first, ends a x.0 x.1, starts b y.0 y.1))
          | inr second ↦ inr (omega (arith, second, ends b y.0 y.1, starts a x.0 x.1))
        ]

    link_from : {a b s : ℕ} → HasLink i a b → a ≡ s → HasLink i s b
    link_from {b = b} link is = subst (λ (k : ℕ). HasLink i k b) is link

    link_to : {a b s : ℕ} → HasLink i a b → b ≡ s → HasLink i a s
    link_to {a = a} link is = subst (λ (k : ℕ). HasLink i a k) is link

    no_loop : {a : ℕ} → HasLink i a a → ⊥
    no_loop link = (w.links link.link link.is_there).two (link.before ∙ sym link.after)

    -- a link leads from the one to the other also after the exchange
    moved_link : (a b x y : ℕ) → HasLink i a b → Gets p q a x → Gets p q b y → HasLink i x y
    moved_link a b x y link (inl ia) (inl ib) = absurd (no_loop (link_to (link_from link ia.0) ib.0))
    moved_link a b x y link (inl ia) (inr (inl ib)) = absurd (twins.no_link (link_to (link_from link ia.0) ib.0))
    moved_link a b x y link (inl ia) (inr (inr ib)) = subst (λ (s : ℕ). HasLink i s y) (sym ia.1) (subst (λ (s : ℕ). HasLink i q s) (sym ib.2) ((twins.successors b).0 (link_from link ia.0)))
    moved_link a b x y link (inr (inl ia)) (inl ib) = absurd (twins.no_link_back (link_to (link_from link ia.0) ib.0))
    moved_link a b x y link (inr (inl ia)) (inr (inl ib)) = absurd (no_loop (link_to (link_from link ia.0) ib.0))
    moved_link a b x y link (inr (inl ia)) (inr (inr ib)) = subst (λ (s : ℕ). HasLink i s y) (sym ia.1) (subst (λ (s : ℕ). HasLink i p s) (sym ib.2) ((twins.successors b).1 (link_from link ia.0)))
    moved_link a b x y link (inr (inr ia)) (inl ib) = subst (λ (s : ℕ). HasLink i s y) (sym ia.2) (subst (λ (s : ℕ). HasLink i a s) (sym ib.1) ((twins.predecessors a).0 (link_to link ib.0)))
    moved_link a b x y link (inr (inr ia)) (inr (inl ib)) = subst (λ (s : ℕ). HasLink i s y) (sym ia.2) (subst (λ (s : ℕ). HasLink i a s) (sym ib.1) ((twins.predecessors a).1 (link_to link ib.0)))
    moved_link a b x y link (inr (inr ia)) (inr (inr ib)) = subst (λ (s : ℕ). HasLink i s y) (sym ia.2) (subst (λ (s : ℕ). HasLink i a s) (sym ib.2) link)

    links : (l : ℕ) → l < length i.links → KeepsLink i (swapped plan p q) l
    links l h =
        let a = (link_at i l).before in
        let b = (link_at i l).after in
        let x = gets_from p q a in
        let y = gets_from p q b in
        let link : HasLink i a b = record { link = l; is_there = h; before = refl; after = refl } in
        omega (arith, link_kept i plan x.0 y.0 v (moved_link a b x.0 y.0 link x.1 y.1), ends a x.0 x.1, starts b y.0 y.1)
