-- The plan of the worked example with one message is valid.
use Rattle.std.proofs.Common.{◌≢◌, ℕ, zero, suc, ◌<◌, [], ◌∷◌, slice_index, lit<, lit≤, refl, arith}
use Rattle.std.proofs.lemmas.Bool.{false≢true}
use Rattle.std.proofs.lemmas.List.Elements.{Contains-get_or}
use Rattle.ttp_model.specs.Plans.{IsValid, IsNewNode, HasOwnCapacity, IsReleased, EndsInTime, IsApartFromLater, IsReady, HasArrivedAt, HasArrivedEverywhere, FitsFrame, HasOwnChannel}
use Rattle.ttp_model.specs.Worked.{one_message, one_message_plan}

other_node : (j : ℕ) → j < 1 → slice_index (0 ∷ 1 ∷ []) j ≢ 1
other_node zero below = λ e. absurd (omega arith)
other_node (suc j) below = absurd (omega arith)

new_node : (k : ℕ) → k < 2 → IsNewNode 2 (0 ∷ 1 ∷ []) k
new_node zero lt = record { node = lit< tt; first = λ j below. absurd (omega arith) }
new_node (suc zero) lt = record { node = lit< tt; first = other_node }
new_node (suc (suc k)) lt = absurd (omega arith)

own : (n : ℕ) → n < 2 → HasOwnCapacity one_message (2 ∷ 0 ∷ []) n
own zero lt = record { own = Contains-get_or (2 ∷ []) 0 0 (lit< tt) }
own (suc zero) lt = record { own = Contains-get_or (0 ∷ []) 0 0 (lit< tt) }
own (suc (suc n)) lt = absurd (omega arith)

released : (p : ℕ) → p < 2 → IsReleased one_message (one_message_plan 0) p
released zero lt = lit≤ tt
released (suc zero) lt = lit≤ tt
released (suc (suc p)) lt = absurd (omega arith)

in_time : (p : ℕ) → p < 2 → EndsInTime one_message (one_message_plan 0) p
in_time zero lt = (lit≤ tt, lit≤ tt)
in_time (suc zero) lt = (lit≤ tt, lit≤ tt)
in_time (suc (suc p)) lt = absurd (omega arith)

apart : (p : ℕ) → p < 2 → IsApartFromLater one_message (one_message_plan 0) p
apart zero lt zero later inside = absurd (omega arith)
apart zero lt (suc zero) later inside = λ same. absurd (omega arith)
apart zero lt (suc (suc q)) later inside = absurd (omega arith)
apart (suc p) lt q later inside = absurd (omega arith)

ready : (m : ℕ) → m < 1 → IsReady one_message (one_message_plan 0) m
ready zero lt = lit≤ tt
ready (suc m) lt = absurd (omega arith)

arrived_at : (k : ℕ) → k < 1 → HasArrivedAt one_message (one_message_plan 0) 0 k
arrived_at zero lt = lit≤ tt
arrived_at (suc k) lt = absurd (omega arith)

arrived : (m : ℕ) → m < 1 → HasArrivedEverywhere one_message (one_message_plan 0) m
arrived zero lt = arrived_at
arrived (suc m) lt = absurd (omega arith)

fits : (m : ℕ) → m < 1 → FitsFrame one_message (one_message_plan 0) m
fits zero lt zero within = λ on. lit≤ tt
fits zero lt (suc c) within = absurd (omega (arith, within))
fits (suc m) lt c within = absurd (omega arith)

on_own : (m : ℕ) → m < 1 → HasOwnChannel one_message (one_message_plan 0) m
on_own zero lt = record { known = lit≤ tt; alone = λ _. refl; both = λ is. absurd (false≢true is) }
on_own (suc m) lt = absurd (omega arith)

pub plan_is_valid : IsValid one_message (one_message_plan 0)
plan_is_valid = record {
  lengths = record { order = refl; capacities = refl; starts = refl; rounds = refl; channels = refl };
  order = record { all = refl; each = new_node };
  capacities = own;
  released = released;
  in_time = in_time;
  apart = apart;
  links = λ l lt. absurd (omega arith);
  ready = ready;
  arrived = arrived;
  frames = fits;
  on_own = on_own;
}
