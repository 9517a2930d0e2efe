-- Where no frame is lost, each node delivers what its table shows, and all stay members.
use Rattle.std.proofs.Common.{◌≡◌, ◌≢◌, ℕ, ◌<◌, ◌≤◌, List, [], Bool, true, All, Contains, length, get_or, arith, refl, inl, inr}
use Rattle.std.proofs.lemmas.Bool.Decides.{eqb_tells}
use Rattle.std.proofs.lemmas.List.Elements.{Contains-append_right}
use Rattle.std.proofs.lemmas.List.FromFn.{get_or-map-range_with_len}
use Rattle.ttp_model.specs.Lists.{EachBelow}
use Rattle.ttp_model.specs.Limits.{most_messages}
use Rattle.ttp_model.specs.declared.limits.TheConstants.{MOST_NODES}
use Rattle.medl_tables.specs.declared.row.Entry.{Entry}
use Rattle.medl_tables.specs.declared.row.Row.{Row}
use Rattle.ttp_model.specs.Instance.{Instance}
use Rattle.ttp_model.specs.Rules.{IsInstance}
use Rattle.medl_tables.specs.Medl.{AreTables, Medl}
use Rattle.medl_tables.proofs.TableParts.{tables-length}
use Rattle.membership_replay.specs.declared.loss.Loss.{Loss}
use Rattle.membership_replay.specs.declared.state.NodeState.{NodeState}
use Rattle.membership_replay.specs.declared.trace.Event.TheVariants.{Deliver}
use Rattle.membership_replay.specs.Machine.{has_member}
use Rattle.membership_replay.specs.Trace.{Trace, deliveries, first_state, node_events, replay_of, row_at, slot_count, slot_of, state_at, states_before, step_at, step_events}
use Rattle.membership_replay.specs.Undisturbed.{AllEntriesArrive, AllStayMembers, no_slot}
use Rattle.membership_replay.proofs.Calm.{AreCalm, first_state-members, is_active-calm, states_before-calm, takes_messages-calm}
use Rattle.membership_replay.proofs.Deliveries.{Contains-deliveries, Contains-flat_map-range, rows_name_messages}
use Rattle.membership_replay.proofs.TableSlots.{senders_inside}

node_delivers : (count : ℕ) (full : List Bool) (members : EachBelow count (λ i. has_member full i ≡ true)) (row : Row) (states : List NodeState) (calm : AreCalm count full states) → row.sender < count → (messages : List Entry) (i : ℕ) → i < count → i ≢ row.sender → (k : ℕ) (d : Entry) → k < length messages
    → (get_or messages k d).message < most_messages → Contains (node_events row [] messages states i) (Deliver (get_or messages k d).message i)
unfolding node_events
node_delivers count full members row states calm sender messages i inside other k d there known = elim (eqb_tells i row.sender) [
  | inl same ↦ absurd (other same.1)
  | inr differ ↦ rw (is_active-calm count full members [] row (λ j _. refl) states calm sender i inside, differ.0, takes_messages-calm count full members [] row (λ j _. refl) states calm sender i inside) (Contains-append_right (step_events (step_at row [] states i) i row.sender (state_at states i).vector) (deliveries i messages) (Deliver (get_or messages k d).message i) (Contains-deliveries i messages k (get_or messages k d).message d there refl known))
]

module _ (t : Medl) (few : length t.rows ≤ MOST_NODES) (senders : EachBelow (slot_count t) (λ k. (row_at t 0 k).sender < length t.rows)) where
  calm_before : (slot : ℕ) → slot ≤ slot_count t → AreCalm (length t.rows) (first_state (length t.rows)).vector (states_before t [] slot)
  calm_before slot inside = states_before-calm t [] (first_state (length t.rows)).vector (first_state-members (length t.rows) few) refl slot (λ k h. senders k (omega (arith, h, inside))) (λ k h i _. refl)

  pub all_stay_members : AllStayMembers (length t.rows) (replay_of t [])
  all_stay_members = λ i inside n other.
      let calm = (calm_before (slot_count t) (omega arith)).each i inside in
      rw calm.vector (first_state-members (length t.rows) few n other)

  pub all_entries_arrive : ((slot i : ℕ) → i < length t.rows → All (λ (e : Entry). e.message < most_messages) (row_at t i slot).messages)
      → AllEntriesArrive t (replay_of t [])
  unfolding slot_of
  all_entries_arrive known = λ slot i inside node other k d there.
      let row = row_at t 0 slot in
      let states = states_before t [] slot in
      let calm = calm_before slot (omega (arith, inside)) in
      let full = (first_state (length t.rows)).vector in
      let told = λ (j : ℕ). node_events row [] (row_at t j slot).messages states j in
      let here = node_delivers (length t.rows) full (first_state-members (length t.rows) few) row states calm (senders slot inside) (row_at t i slot).messages i node other k d there (known slot i node k d there) in
      rw (get_or-map-range_with_len (slot_of t []) 0 (slot_count t) slot slot no_slot inside (omega arith)) (Contains-flat_map-range told (length states) i (Deliver (get_or (row_at t i slot).messages k d).message i) (omega (arith, node, calm.all)) here)

module _ (i : Instance) (t : Medl) (losses : List Loss) (replay : Trace) (w : IsInstance i) (tables : AreTables i t) (is : replay ≡ replay_of t losses) (none : losses ≡ []) where
  few_nodes : length t.rows ≤ MOST_NODES
  few_nodes = omega (arith, tables-length i t tables, w.limits.nodes)

  pub all_stay : AllStayMembers (length i.nodes) replay
  all_stay = rw (is, none, ← tables-length i t tables) (all_stay_members t few_nodes (senders_inside i t tables w.limits.nodes_least))

  pub all_arrive : AllEntriesArrive t replay
  all_arrive = rw (is, none) (all_entries_arrive t few_nodes (senders_inside i t tables w.limits.nodes_least) known)
    where
      known : (slot node : ℕ) → node < length t.rows → All (λ (e : Entry). e.message < most_messages) (row_at t node slot).messages
      known slot node there k d inside =
          let row = rows_name_messages i t node slot tables (omega (arith, there, tables-length i t tables)) k d inside in
          omega (arith, row, w.limits.messages)
