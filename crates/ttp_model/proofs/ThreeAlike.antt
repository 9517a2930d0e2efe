-- Plans of the worked example with three processes that are alike: which are valid, and where the moves lead.
use Rattle.std.proofs.Common.{◌≡◌, ℕ, zero, suc, ◌+◌, ◌-◌, ◌<◌, ◌≤◌, ◌⊎◌, [], ◌∷◌, lit<, lit≤, refl, arith, inl, inr, subst}
use Rattle.std.proofs.lemmas.List.Elements.{Contains-get_or}
use Rattle.ttp_model.specs.declared.plan.Plan.{Plan}
use Rattle.ttp_model.specs.Plans.{IsValid, IsNewNode, HasOwnCapacity, IsReleased, EndsInTime, IsApartFromLater, start_of}
use Rattle.ttp_model.specs.Graph.{HasLink, HasMessage}
use Rattle.ttp_model.specs.Twins.{AreTwins}
use Rattle.ttp_model.specs.Moves.{Move, StartsEarlier, SwapsTwins, MovesLead, none, one_more, IsSettled, started}
use Rattle.ttp_model.specs.Worked.{three_alike, three_alike_plan}

new_node : (k : ℕ) → k < 1 → IsNewNode 1 (0 ∷ []) k
new_node zero lt = record { node = lit< tt; first = λ j below. absurd (omega arith) }
new_node (suc k) lt = absurd (omega arith)

own : (n : ℕ) → n < 1 → HasOwnCapacity three_alike (0 ∷ []) n
own zero lt = record { own = Contains-get_or (0 ∷ []) 0 0 (lit< tt) }
own (suc n) lt = absurd (omega arith)

-- one of two processes of two ticks ends before the other starts
abbrev Apart : ℕ → ℕ → Type 0
Apart a b = (a + 2 ≤ b) ⊎ (b + 2 ≤ a)

module _ (a b c : ℕ) (a_ends : a + 2 ≤ 100) (b_ends : b + 2 ≤ 100) (c_ends : c + 2 ≤ 100) (ab : Apart a b) (ac : Apart a c) (bc : Apart b c) where
  released : (p : ℕ) → p < 3 → IsReleased three_alike (three_alike_plan (a ∷ b ∷ c ∷ [])) p
  released zero lt = omega arith
  released (suc zero) lt = omega arith
  released (suc (suc zero)) lt = omega arith
  released (suc (suc (suc p))) lt = absurd (omega arith)

  in_time : (p : ℕ) → p < 3 → EndsInTime three_alike (three_alike_plan (a ∷ b ∷ c ∷ [])) p
  in_time zero lt = (omega (arith, a_ends), a_ends)
  in_time (suc zero) lt = (omega (arith, b_ends), b_ends)
  in_time (suc (suc zero)) lt = (omega (arith, c_ends), c_ends)
  in_time (suc (suc (suc p))) lt = absurd (omega arith)

  apart : (p : ℕ) → p < 3 → IsApartFromLater three_alike (three_alike_plan (a ∷ b ∷ c ∷ [])) p
  apart zero lt (suc zero) later inside = λ _. ab
  apart zero lt (suc (suc zero)) later inside = λ _. ac
  apart (suc zero) lt (suc (suc zero)) later inside = λ _. bc
  apart zero lt zero later inside = absurd (omega arith)
  apart (suc zero) lt zero later inside = absurd (omega arith)
  apart (suc zero) lt (suc zero) later inside = absurd (omega arith)
  apart (suc (suc p)) lt q later inside = absurd (omega arith)
  apart p lt (suc (suc (suc q))) later inside = absurd (omega arith)

  pub starts_valid : IsValid three_alike (three_alike_plan (a ∷ b ∷ c ∷ []))
  starts_valid = record {
    lengths = record { order = refl; capacities = refl; starts = refl; rounds = refl; channels = refl };
    order = record { all = refl; each = new_node };
    capacities = own;
    released = released;
    in_time = in_time;
    apart = apart;
    links = λ l lt. absurd (omega arith);
    ready = λ m lt. absurd (omega arith);
    arrived = λ m lt. absurd (omega arith);
    frames = λ m lt. absurd (omega arith);
    on_own = λ m lt. absurd (omega arith);
  }

pub late_valid : IsValid three_alike (three_alike_plan (5 ∷ 2 ∷ 0 ∷ []))
late_valid = starts_valid 5 2 0 (lit≤ tt) (lit≤ tt) (lit≤ tt) (inr (lit≤ tt)) (inr (lit≤ tt)) (inr (lit≤ tt))

turned_valid : IsValid three_alike (three_alike_plan (4 ∷ 2 ∷ 0 ∷ []))
turned_valid = starts_valid 4 2 0 (lit≤ tt) (lit≤ tt) (lit≤ tt) (inr (lit≤ tt)) (inr (lit≤ tt)) (inr (lit≤ tt))

first_valid : IsValid three_alike (three_alike_plan (0 ∷ 2 ∷ 4 ∷ []))
first_valid = starts_valid 0 2 4 (lit≤ tt) (lit≤ tt) (lit≤ tt) (inl (lit≤ tt)) (inl (lit≤ tt)) (inl (lit≤ tt))

no_link : (p q : ℕ) → ¬ HasLink three_alike p q
no_link p q has = omega (arith, has.is_there)

no_message : (p q : ℕ) → ¬ HasMessage three_alike p q
no_message p q has = omega (arith, has.is_there)

outer_twins : AreTwins three_alike 0 2
outer_twins = record {
  p_is = lit< tt;
  q_is = lit< tt;
  two = λ same. omega (arith, same);
  node = refl;
  wcet = refl;
  release = refl;
  deadline = refl;
  predecessors = λ k. (λ has. absurd (no_link k 0 has), λ has. absurd (no_link k 2 has));
  successors = λ k. (λ has. absurd (no_link 0 k has), λ has. absurd (no_link 2 k has));
  no_link = no_link 0 2;
  no_link_back = no_link 2 0;
  p_sends = λ m inside. absurd (omega (arith, inside));
  q_sends = λ m inside. absurd (omega (arith, inside));
  p_receives = λ q. no_message q 0;
  q_receives = λ q. no_message q 2;
}

earlier : StartsEarlier three_alike (three_alike_plan (5 ∷ 2 ∷ 0 ∷ [])) (three_alike_plan (4 ∷ 2 ∷ 0 ∷ []))
earlier = record { process = 0; is_there = lit< tt; above = lit< tt; moved_is = refl }

exchange : SwapsTwins three_alike (three_alike_plan (4 ∷ 2 ∷ 0 ∷ [])) (three_alike_plan (0 ∷ 2 ∷ 4 ∷ []))
exchange = record { first = 0; second = 2; twins = outer_twins; in_order = lit< tt; later = lit< tt; moved_is = refl }

-- one starts a tick earlier, then it and another exchange their starts
pub two_moves : MovesLead three_alike (three_alike_plan (5 ∷ 2 ∷ 0 ∷ [])) (three_alike_plan (0 ∷ 2 ∷ 4 ∷ []))
two_moves = one_more _ (three_alike_plan (4 ∷ 2 ∷ 0 ∷ [])) _ (inl (inl (inl earlier))) turned_valid (one_more _ (three_alike_plan (0 ∷ 2 ∷ 4 ∷ [])) _ (inl (inr (inl exchange))) first_valid (none _))

no_earlier_start : (p : ℕ) (moved : Plan) → p < 3 → 0 < start_of (three_alike_plan (0 ∷ 2 ∷ 4 ∷ [])) p → moved ≡ started (three_alike_plan (0 ∷ 2 ∷ 4 ∷ [])) p (start_of (three_alike_plan (0 ∷ 2 ∷ 4 ∷ [])) p - 1) → ¬ IsValid three_alike moved
no_earlier_start zero moved lt above is v = absurd (omega arith)
no_earlier_start (suc zero) moved lt above is v = elim ((subst (IsValid three_alike) is v).apart 0 (lit< tt) 1 (lit< tt) (lit< tt) refl) [ inl before ↦ omega (arith, before) | inr after ↦ omega (arith, after) ]
no_earlier_start (suc (suc zero)) moved lt above is v = elim ((subst (IsValid three_alike) is v).apart 1 (lit< tt) 2 (lit< tt) (lit< tt) refl) [ inl before ↦ omega (arith, before) | inr after ↦ omega (arith, after) ]
no_earlier_start (suc (suc (suc p))) moved lt above is v = absurd (omega arith)

in_order : (a b : ℕ) → a < b → b < 3 → start_of (three_alike_plan (0 ∷ 2 ∷ 4 ∷ [])) b < start_of (three_alike_plan (0 ∷ 2 ∷ 4 ∷ [])) a → ⊥
in_order zero (suc zero) less inside later = omega arith
in_order zero (suc (suc zero)) less inside later = omega arith
in_order (suc zero) (suc (suc zero)) less inside later = omega arith
in_order zero zero less inside later = omega arith
in_order (suc zero) zero less inside later = omega arith
in_order (suc zero) (suc zero) less inside later = omega arith
in_order (suc (suc a)) b less inside later = omega arith
in_order a (suc (suc (suc b))) less inside later = omega arith

no_move : (moved : Plan) → Move three_alike (three_alike_plan (0 ∷ 2 ∷ 4 ∷ [])) moved → ¬ IsValid three_alike moved
no_move moved (inl (inl (inl move))) v = no_earlier_start move.process moved move.is_there move.above move.moved_is v
no_move moved (inl (inl (inr move))) v = omega (arith, move.is_there)
no_move moved (inl (inr (inl move))) v = in_order move.first move.second move.in_order move.twins.q_is move.later
no_move moved (inl (inr (inr move))) v = omega (arith, move.twins.v_is, move.in_order)
no_move moved (inr move) v = omega (arith, move.is_there)

pub first_settled : IsSettled three_alike (three_alike_plan (0 ∷ 2 ∷ 4 ∷ []))
first_settled = record { valid = first_valid; rests = no_move }
