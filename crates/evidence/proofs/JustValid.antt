-- Which plans of the uneven example are valid.
use Rattle.std.proofs.Common.{◌≡◌, ◌≢◌, ℕ, zero, suc, ◌+◌, ◌<◌, ◌≤◌, [], ◌∷◌, slice_index, Contains, lit<, lit≤, refl, arith, inl, inr}
use Rattle.std.proofs.lemmas.Bool.{false≢true}
use Rattle.std.proofs.lemmas.List.Elements.{Contains-get_or}
use Rattle.ttp_model.specs.declared.plan.Plan.{Plan}
use Rattle.ttp_model.specs.Instance.{Instance}
use Rattle.ttp_model.specs.Plans.{IsValid, IsNewNode, HasOwnCapacity, IsReleased, EndsInTime, IsApartFromLater, KeepsLink, IsReady, HasArrivedAt, HasArrivedEverywhere, FitsFrame, HasOwnChannel}
use Rattle.ttp_model.specs.Worked.{three_alike, three_alike_plan}
use Rattle.evidence.specs.Edges.{just_in_time, uneven, uneven_cluster, uneven_on, uneven_plan}

other_node : (j : ℕ) → j < 1 → slice_index (0 ∷ 1 ∷ []) j ≢ 1
other_node zero below = λ e. absurd (omega arith)
other_node (suc j) below = absurd (omega arith)

new_node : (k : ℕ) → k < 2 → IsNewNode 2 (0 ∷ 1 ∷ []) k
new_node zero lt = record { node = lit< tt; first = λ j below. absurd (omega arith) }
new_node (suc zero) lt = record { node = lit< tt; first = other_node }
new_node (suc (suc k)) lt = absurd (omega arith)

-- the horizon and the deadline are no less than the last end, and q starts at 79 or a tick later
module _ (horizon deadline q : ℕ) (in_horizon : 122 ≤ horizon) (in_deadline : 122 ≤ deadline) (q_waits : 79 ≤ q) (q_ends : q + 19 ≤ 99) where
  abbrev problem : Instance
  problem = uneven_on (uneven_cluster 4 7 horizon) deadline

  abbrev plan : Plan
  plan = uneven_plan (43 ∷ 56 ∷ q ∷ 99 ∷ []) (3 ∷ 4 ∷ [])

  own : (n : ℕ) → n < 2 → HasOwnCapacity problem (3 ∷ 1 ∷ []) n
  own zero lt = record { own = Contains-get_or (3 ∷ 5 ∷ []) 0 0 (lit< tt) }
  own (suc zero) lt = record { own = Contains-get_or (1 ∷ 8 ∷ []) 0 0 (lit< tt) }
  own (suc (suc n)) lt = absurd (omega arith)

  released : (p : ℕ) → p < 4 → IsReleased problem plan p
  released zero lt = lit≤ tt
  released (suc zero) lt = lit≤ tt
  released (suc (suc zero)) lt = omega arith
  released (suc (suc (suc zero))) lt = lit≤ tt
  released (suc (suc (suc (suc p)))) lt = absurd (omega arith)

  in_time : (p : ℕ) → p < 4 → EndsInTime problem plan p
  in_time zero lt = (lit≤ tt, omega (arith, in_horizon))
  in_time (suc zero) lt = (lit≤ tt, omega (arith, in_horizon))
  in_time (suc (suc zero)) lt = (omega (arith, q_ends), omega (arith, q_ends, in_horizon))
  in_time (suc (suc (suc zero))) lt = (in_deadline, in_horizon)
  in_time (suc (suc (suc (suc p)))) lt = absurd (omega arith)

  apart : (p : ℕ) → p < 4 → IsApartFromLater problem plan p
  apart zero lt (suc zero) later inside = λ same. inl (lit≤ tt)
  apart zero lt (suc (suc zero)) later inside = λ same. absurd (omega (arith, same))
  apart zero lt (suc (suc (suc zero))) later inside = λ same. absurd (omega (arith, same))
  apart (suc zero) lt (suc (suc zero)) later inside = λ same. absurd (omega (arith, same))
  apart (suc zero) lt (suc (suc (suc zero))) later inside = λ same. absurd (omega (arith, same))
  apart (suc (suc zero)) lt (suc (suc (suc zero))) later inside = λ same. inl q_ends
  apart zero lt zero later inside = absurd (omega arith)
  apart (suc zero) lt zero later inside = absurd (omega arith)
  apart (suc zero) lt (suc zero) later inside = absurd (omega arith)
  apart (suc (suc zero)) lt zero later inside = absurd (omega arith)
  apart (suc (suc zero)) lt (suc zero) later inside = absurd (omega arith)
  apart (suc (suc zero)) lt (suc (suc zero)) later inside = absurd (omega arith)
  apart (suc (suc (suc p))) lt q later inside = absurd (omega arith)
  apart p lt (suc (suc (suc (suc q)))) later inside = absurd (omega arith)

  ready : (m : ℕ) → m < 2 → IsReady problem plan m
  ready zero lt = lit≤ tt
  ready (suc zero) lt = lit≤ tt
  ready (suc (suc m)) lt = absurd (omega arith)

  m_arrived : (k : ℕ) → k < 2 → HasArrivedAt problem plan 0 k
  m_arrived zero lt = lit≤ tt
  m_arrived (suc zero) lt = q_waits
  m_arrived (suc (suc k)) lt = absurd (omega arith)

  l_arrived : (k : ℕ) → k < 1 → HasArrivedAt problem plan 1 k
  l_arrived zero lt = lit≤ tt
  l_arrived (suc k) lt = absurd (omega arith)

  arrived : (m : ℕ) → m < 2 → HasArrivedEverywhere problem plan m
  arrived zero lt = m_arrived
  arrived (suc zero) lt = l_arrived
  arrived (suc (suc m)) lt = absurd (omega arith)

  fits : (m : ℕ) → m < 2 → FitsFrame problem plan m
  fits zero lt zero within = λ on. lit≤ tt
  fits zero lt (suc c) within = absurd (omega (arith, within))
  fits (suc zero) lt zero within = λ on. lit≤ tt
  fits (suc zero) lt (suc c) within = absurd (omega (arith, within))
  fits (suc (suc m)) lt c within = absurd (omega arith)

  on_own : (m : ℕ) → m < 2 → HasOwnChannel problem plan m
  on_own zero lt = record { known = lit≤ tt; alone = λ _. refl; both = λ is. absurd (false≢true is) }
  on_own (suc zero) lt = record { known = lit≤ tt; alone = λ _. refl; both = λ is. absurd (false≢true is) }
  on_own (suc (suc m)) lt = absurd (omega arith)

  linked : (l : ℕ) → l < 1 → KeepsLink problem plan l
  linked zero lt = lit≤ tt
  linked (suc l) lt = absurd (omega arith)

  valid : IsValid problem plan
  valid = record {
    lengths = record { order = refl; capacities = refl; starts = refl; rounds = refl; channels = refl };
    order = record { all = refl; each = new_node };
    capacities = own;
    released = released;
    in_time = in_time;
    apart = apart;
    links = linked;
    ready = ready;
    arrived = arrived;
    frames = fits;
    on_own = on_own;
  }

pub just_valid : IsValid uneven just_in_time
just_valid = valid 500 200 79 (lit≤ tt) (lit≤ tt) (lit≤ tt) (lit≤ tt)

pub just_by_the_deadline : IsValid (uneven_on (uneven_cluster 4 7 122) 122) just_in_time
just_by_the_deadline = valid 122 122 79 (lit≤ tt) (lit≤ tt) (lit≤ tt) (lit≤ tt)

pub just_apart : IsValid uneven (uneven_plan (43 ∷ 56 ∷ 80 ∷ 99 ∷ []) (3 ∷ 4 ∷ []))
just_apart = valid 500 200 80 (lit≤ tt) (lit≤ tt) (lit≤ tt) (lit≤ tt)

pub a_round_too_many : ¬ IsValid uneven (uneven_plan (43 ∷ 56 ∷ 79 ∷ 99 ∷ []) (3 ∷ 4 ∷ 4 ∷ []))
a_round_too_many v = let long : 3 ≡ 2 = v.lengths.rounds in omega (arith, long)

pub a_node_twice : ¬ IsValid uneven (record just_in_time { order = 0 ∷ 0 ∷ [] })
a_node_twice v = (v.order.each 1 (lit< tt)).first 0 (lit< tt) refl

no_option : ¬ Contains {X = ℕ} (3 ∷ 5 ∷ []) 4
no_option (zero, inside, is) = omega (arith, is)
no_option (suc zero, inside, is) = omega (arith, is)
no_option (suc (suc k), inside, is) = omega (arith, inside)

pub between_options : ¬ IsValid uneven (record (uneven_plan (43 ∷ 56 ∷ 87 ∷ 109 ∷ []) (3 ∷ 4 ∷ [])) { caps = 4 ∷ 1 ∷ [] })
between_options v = no_option (v.capacities 0 (lit< tt)).own

pub before_its_release : ¬ IsValid uneven (uneven_plan (42 ∷ 56 ∷ 79 ∷ 99 ∷ []) (3 ∷ 4 ∷ []))
before_its_release v = let early : 43 ≤ 42 = v.released 0 (lit< tt) in omega (arith, early)

pub past_its_deadline : ¬ IsValid (uneven_on (uneven_cluster 4 7 500) 121) just_in_time
past_its_deadline v = let late : 122 ≤ 121 = (v.in_time 3 (lit< tt)).0 in omega (arith, late)

pub past_the_horizon : ¬ IsValid (uneven_on (uneven_cluster 4 7 121) 200) just_in_time
past_the_horizon v = let late : 122 ≤ 121 = (v.in_time 3 (lit< tt)).1 in omega (arith, late)

pub overlap_by_a_tick : ¬ IsValid uneven (uneven_plan (43 ∷ 56 ∷ 81 ∷ 99 ∷ []) (3 ∷ 4 ∷ []))
overlap_by_a_tick v = elim (v.apart 2 (lit< tt) 3 (lit< tt) (lit< tt) refl) [ inl before ↦ omega (arith, before) | inr after ↦ omega (arith, after) ]

pub first_overlaps_last : ¬ IsValid three_alike (three_alike_plan (0 ∷ 4 ∷ 1 ∷ []))
first_overlaps_last v = elim (v.apart 0 (lit< tt) 2 (lit< tt) (lit< tt) refl) [ inl before ↦ omega (arith, before) | inr after ↦ omega (arith, after) ]

pub against_the_link : ¬ IsValid uneven (uneven_plan (43 ∷ 26 ∷ 79 ∷ 99 ∷ []) (3 ∷ 4 ∷ []))
against_the_link v = let turned : 56 ≤ 26 = v.links 0 (lit< tt) in omega (arith, turned)

pub copied_out_late : ¬ IsValid (uneven_on (uneven_cluster 5 7 500) 200) just_in_time
copied_out_late v = let late : 61 ≤ 60 = v.ready 0 (lit< tt) in omega (arith, late)

pub second_receiver_early : ¬ IsValid uneven (uneven_plan (43 ∷ 56 ∷ 78 ∷ 99 ∷ []) (3 ∷ 4 ∷ []))
second_receiver_early v = let early : 79 ≤ 78 = v.arrived 0 (lit< tt) 1 (lit< tt) in omega (arith, early)

pub copied_in_late : ¬ IsValid (uneven_on (uneven_cluster 4 8 500) 200) just_in_time
copied_in_late v = let late : 80 ≤ 79 = v.arrived 0 (lit< tt) 1 (lit< tt) in omega (arith, late)

pub two_in_one_frame : ¬ IsValid uneven (uneven_plan (43 ∷ 56 ∷ 99 ∷ 118 ∷ []) (4 ∷ 4 ∷ []))
two_in_one_frame v = let full : 5 ≤ 3 = v.frames 0 (lit< tt) 0 (lit< tt) refl in omega (arith, full)

pub a_channel_too_many : ¬ IsValid uneven (record just_in_time { channels = 0 ∷ 0 ∷ 0 ∷ [] })
a_channel_too_many v = let long : 3 ≡ 2 = v.lengths.channels in omega (arith, long)

pub on_another_channel : ¬ IsValid uneven (record just_in_time { channels = 0 ∷ 1 ∷ [] })
on_another_channel v = let other : 1 ≡ 0 = (v.on_own 1 (lit< tt)).alone refl in omega (arith, other)
