-- What the kept of open decisions say, from the choice on in which nothing is chosen.
use Rattle.std.proofs.Common.{◌≡◌, ℕ, ◌<◌, ◌≤◌, List, length, Option, None, Some, Bool, true, false, IsTrue, refl}
use Rattle.ttp_model.specs.Instance.{Instance}
use Rattle.ttp_model.specs.Rules.{IsInstance}
use Rattle.tt_choice.specs.declared.decision.Decision.{Decision}
use Rattle.tt_choice.specs.Choice.{Choice, fixed_channel, is_before, least_round, greatest_round}
use Rattle.tt_choice.specs.Branches.{root_choice}
use Rattle.tt_choice.specs.Decisions.{AreOpenDecisions, chosen}
use Rattle.tt_choice.specs.Extremes.{cap_least, cap_most, place_of, start_least, start_most, end_least, end_most}
use Rattle.tt_choice.specs.Inside.{IsInside}
use Rattle.tt_choice.specs.Kept.{Marked, all_of, kept_of, KeepsPlaces, places_kept, last_kept, sets_least, sets_greatest, sets_order, fixes_above, fixes_below, fixes_channel, passes}
use Rattle.tt_choice.proofs.Root.{IsChoice-root}
use Rattle.tt_choice.proofs.kept.Wider.{IsWider, wider_itself, open_kept, wider_kept_all}
use Rattle.tt_choice.proofs.kept.Alike.{IsSetBy, alike_kept}
use Rattle.tt_choice.proofs.kept.Said.{least_is_set, greatest_is_set, order_is_set, least_frame_is_set, greatest_frame_is_set, channel_is_set}
use Rattle.tt_choice.proofs.kept.Slots.{least_slot_alike, greatest_slot_alike}

module _ (i : Instance) (ms : List Marked) (w : IsInstance i) (are : AreOpenDecisions i (root_choice i) (all_of ms)) (places : KeepsPlaces true ms) where
  begins : IsWider i true (root_choice i) (root_choice i)
  begins = wider_itself i (root_choice i) (IsChoice-root i w)

  pub ends : IsWider i (places_kept true ms) (chosen i (all_of ms)) (chosen i (kept_of ms))
  ends = wider_kept_all i true (root_choice i) (root_choice i) ms begins are places

  pub kept_are_open : AreOpenDecisions i (root_choice i) (kept_of ms)
  kept_are_open = open_kept i true (root_choice i) (root_choice i) ms begins are places

  pub kept_is_outside : IsInside i (chosen i (all_of ms)) (chosen i (kept_of ms))
  kept_is_outside = ends.inside

  set_alike : (Same : Choice → Choice → Type 0) (picks : Decision → Bool) → IsSetBy i Same picks → Same (root_choice i) (root_choice i) → IsTrue (last_kept picks true ms) → Same (chosen i (all_of ms)) (chosen i (kept_of ms))
  set_alike Same picks set same last = alike_kept i Same picks set true (root_choice i) (root_choice i) ms true begins are places (λ _. same) last

  pub kept_least : (m : ℕ) → IsTrue (last_kept (sets_least m) true ms) → least_round (chosen i (all_of ms)) m ≡ least_round (chosen i (kept_of ms)) m
  kept_least m last = set_alike (λ c d. least_round c m ≡ least_round d m) (sets_least m) (least_is_set i m) refl last

  pub kept_greatest : (m : ℕ) → IsTrue (last_kept (sets_greatest m) true ms) → greatest_round (chosen i (all_of ms)) m ≡ greatest_round (chosen i (kept_of ms)) m
  kept_greatest m last = set_alike (λ c d. greatest_round c m ≡ greatest_round d m) (sets_greatest m) (greatest_is_set i m) refl last

  pub kept_order : (p q : ℕ) → IsTrue (last_kept (sets_order p q) true ms) → is_before (chosen i (all_of ms)) p q ≡ is_before (chosen i (kept_of ms)) p q
  kept_order p q last = set_alike (λ c d. is_before c p q ≡ is_before d p q) (sets_order p q) (order_is_set i p q) refl last

  pub kept_least_frame : (n : ℕ) → IsTrue (last_kept (fixes_above n) true ms) → cap_least i (chosen i (all_of ms)) n ≡ cap_least i (chosen i (kept_of ms)) n
  kept_least_frame n last = set_alike (λ c d. cap_least i c n ≡ cap_least i d n) (fixes_above n) (least_frame_is_set i n) refl last

  pub kept_greatest_frame : (n : ℕ) → IsTrue (last_kept (fixes_below i n) true ms) → cap_most i (chosen i (all_of ms)) n ≡ cap_most i (chosen i (kept_of ms)) n
  kept_greatest_frame n last = set_alike (λ c d. cap_most i c n ≡ cap_most i d n) (fixes_below i n) (greatest_frame_is_set i n) refl last

  pub kept_channel : (X : Type 0) (tells : Option ℕ → X) (test : ℕ → Bool) → ((k : ℕ) → test k ≡ false → tells (Some k) ≡ tells None) → (m : ℕ) → IsTrue (last_kept (fixes_channel test m) true ms) → tells (fixed_channel (chosen i (all_of ms)) m) ≡ tells (fixed_channel (chosen i (kept_of ms)) m)
  kept_channel X tells test as_none m last = set_alike (λ c d. tells (fixed_channel c m) ≡ tells (fixed_channel d m)) (fixes_channel test m) (channel_is_set i X tells test as_none m) refl last

  pub kept_passes : (test : ℕ → Bool) (m : ℕ) → IsTrue (last_kept (fixes_channel test m) true ms) → passes test (fixed_channel (chosen i (all_of ms)) m) ≡ passes test (fixed_channel (chosen i (kept_of ms)) m)
  kept_passes test m last = kept_channel Bool (passes test) test (λ k not. not) m last

  pub kept_least_slot : ((v : ℕ) → v < length i.nodes → IsTrue (last_kept (fixes_above v) true ms)) → (n : ℕ) → n < length i.nodes → place_of n (chosen i (all_of ms)).prefix ≤ length (chosen i (kept_of ms)).prefix → (r : ℕ) → (start_least i (chosen i (all_of ms)) n r ≡ start_least i (chosen i (kept_of ms)) n r) × (end_least i (chosen i (all_of ms)) n r ≡ end_least i (chosen i (kept_of ms)) n r)
  kept_least_slot above n there front =
      least_slot_alike i (chosen i (all_of ms)) (chosen i (kept_of ms)) ends.also ends.rest ends.front (λ v h. kept_least_frame v (above v h)) n there front

  pub kept_greatest_slot : ((v : ℕ) → v < length i.nodes → IsTrue (last_kept (fixes_below i v) true ms)) → (n : ℕ) → n < length i.nodes → (place_of n (chosen i (all_of ms)).prefix < length (chosen i (all_of ms)).prefix → place_of n (chosen i (all_of ms)).prefix < length (chosen i (kept_of ms)).prefix) → (r : ℕ) → (start_most i (chosen i (all_of ms)) n r ≡ start_most i (chosen i (kept_of ms)) n r) × (end_most i (chosen i (all_of ms)) n r ≡ end_most i (chosen i (kept_of ms)) n r)
  kept_greatest_slot below n there placed =
      greatest_slot_alike i (chosen i (all_of ms)) (chosen i (kept_of ms)) ends.also ends.rest ends.front (λ v h. kept_greatest_frame v (below v h)) n there placed
