-- What a replay with losses says.
use Rattle.std.proofs.Common.{◌≡◌, ◌≢◌, ℕ, ◌+◌, ◌<◌, ◌&&◌, Bool, true, false, cond, List, [], ◌∷◌, All, Contains, length, slice_index_or, Result, Ok, Err, IfOk, OnOk, IsErr, arith, refl}
use Rattle.std.specs.List.{range_with_len}
use Rattle.std.proofs.lemmas.List.Elements.{All-append, All-cons, All-contains, All-nil}
use Rattle.std.proofs.lemmas.List.FromFn.{get_or-map-range_with_len}
use Rattle.ttp_model.specs.Limits.{most_messages}
use Rattle.tt_layout.proofs.Ranges.{All-flat_map}
use Rattle.medl_tables.specs.declared.row.Entry.{Entry}
use Rattle.medl_tables.specs.declared.row.Row.{Row}
use Rattle.medl_tables.specs.Medl.{Medl}
use Rattle.membership_replay.specs.declared.loss.Loss.{Loss}
use Rattle.membership_replay.specs.declared.state.NodeState.{NodeState}
use Rattle.membership_replay.specs.declared.state.Step.{Step}
use Rattle.membership_replay.specs.declared.state.Step.TheVariants.{Nothing, Drops, Acknowledges, Doubts, Confirms, Leaves}
use Rattle.membership_replay.specs.declared.trace.Event.{Event}
use Rattle.membership_replay.specs.declared.trace.Event.TheVariants.{Ack, Doubt, Leave, Drop, Deliver}
use Rattle.membership_replay.specs.Losses.{CanBeReplayed, no_loss}
use Rattle.membership_replay.specs.LostFrames.{SenderLeaves}
use Rattle.membership_replay.specs.Machine.{has_member, is_same}
use Rattle.membership_replay.specs.Trace.{Trace, deliveries, delivery, drop_events, is_listed, is_told, next_state, node_events, replay_of, row_at, slot_count, slot_of, state_at, states_before, step_at, step_events, takes_messages}
use Rattle.membership_replay.specs.Undisturbed.{no_slot, slot_at}
use Rattle.evidence.specs.Membership.{agrees}

module _ {E : Type 0} (t : Medl) (losses : List Loss) where
  pub not_at_sender : (result : Result Trace E) (k : ℕ) → OnOk result (CanBeReplayed t losses) → k < length losses
      → (slice_index_or losses k no_loss).receiver ≡ (row_at t 0 (slice_index_or losses k no_loss).slot).sender → IsErr result
  not_at_sender (Ok trace) k able inside same = absurd ((able.losses_of k inside).other same)
  not_at_sender (Err e) k able inside same = refl

  pub has_left : (result : Result Trace E) (slot : ℕ) → IfOk result (λ trace. trace ≡ replay_of t losses) → OnOk result (SenderLeaves t losses slot)
      → slot + 3 ≡ slot_count t → IfOk result (λ trace. has_member (state_at trace.states (row_at t 0 slot).sender).vector (row_at t 0 slot).sender ≡ false)
  has_left (Ok trace) slot is leaves last = rw (is, ← last) leaves.left
  has_left (Err e) slot is leaves last = tt

-- no step is told as a delivery
module _ (m i : ℕ) where
  abbrev IsOther : Event → Type 0
  IsOther e = e ≢ Deliver m i

  drop_is_other : (j b : ℕ) (member : Bool) → All IsOther (cond member (Drop j b ∷ []) [])
  drop_is_other j b true = All-cons IsOther (Drop j b) [] (λ same. cc) (All-nil IsOther)
  drop_is_other j b false = All-nil IsOther

  steps_are_other : (step : Step) (j s : ℕ) (vector : List Bool) → All IsOther (step_events step j s vector)
  steps_are_other Nothing j s vector = All-nil IsOther
  steps_are_other Drops j s vector = drop_is_other j s (has_member vector s)
  steps_are_other Acknowledges j s vector = All-cons IsOther (Ack j) [] (λ same. cc) (All-nil IsOther)
  steps_are_other Doubts j s vector = All-cons IsOther (Doubt j) [] (λ same. cc) (All-nil IsOther)
  steps_are_other (Confirms b) j s vector = All-cons IsOther (Ack j) (drop_events j b vector) (λ same. cc) (drop_is_other j b (has_member vector b))
  steps_are_other Leaves j s vector = All-cons IsOther (Leave j) [] (λ same. cc) (All-nil IsOther)

  other_is_other : (has : Bool) (j n : ℕ) → j ≢ i → All IsOther (cond has (Deliver n j ∷ []) [])
  other_is_other true j n differ = All-cons IsOther (Deliver n j) [] (λ same. differ cc) (All-nil IsOther)
  other_is_other false j n differ = All-nil IsOther

  others_are_other : (j : ℕ) (messages : List Entry) → j ≢ i → All IsOther (deliveries j messages)
  unfolding deliveries delivery
  others_are_other j messages differ =
      All-flat_map IsOther (delivery j messages) (range_with_len 0 most_messages) (λ n. other_is_other (is_listed messages n) j n differ)

  taken : (takes : Bool) (j : ℕ) (messages : List Entry) → (j ≡ i → takes ≡ false) → All IsOther (cond takes (deliveries j messages) [])
  taken true j messages refuses = others_are_other j messages (λ same. let no = refuses same in cc)
  taken false j messages refuses = All-nil IsOther

  told : (tells : Bool) (events : List Event) → All IsOther events → All IsOther (cond tells events [])
  told true events each = each
  told false events each = All-nil IsOther

  second_false : (a b : Bool) → b ≡ false → (a && b) ≡ false
  second_false true b e = e
  second_false false b e = refl

  node_is_other : (row : Row) (losses : List Loss) (messages : List Entry) (states : List NodeState)
      → is_same (state_at states row.sender).vector (next_state row losses states i).vector ≡ false → (j : ℕ)
      → All IsOther (node_events row losses messages states j)
  unfolding node_events
  node_is_other row losses messages states differ j =
      told (is_told row states j) _ (All-append IsOther (step_events (step_at row losses states j) j row.sender (state_at states j).vector) _
      (steps_are_other (step_at row losses states j) j row.sender (state_at states j).vector)
      (taken (takes_messages row losses states j) j messages (λ same. rw same (second_false _ _ differ))))

  pub none_delivered : {E : Type 0} (t : Medl) (losses : List Loss) (result : Result Trace E) (slot : ℕ)
      → IfOk result (λ trace. trace ≡ replay_of t losses) → slot < slot_count t → agrees t losses slot i ≡ false
      → IfOk result (λ trace. ¬ Contains (slot_at trace slot).events (Deliver m i))
  unfolding slot_of
  none_delivered t losses (Ok trace) slot is inside differ =
      let row = row_at t 0 slot in
      let states = states_before t losses slot in
      let each = All-flat_map IsOther (λ j. node_events row losses (row_at t j slot).messages states j) (range_with_len 0 (length states))
      (λ j. node_is_other row losses (row_at t j slot).messages states differ j) in
      rw (is, get_or-map-range_with_len (slot_of t losses) 0 (slot_count t) slot slot no_slot inside (omega arith))
      (λ there. All-contains IsOther _ (Deliver m i) each there refl)
  none_delivered t losses (Err e) slot is inside differ = tt
