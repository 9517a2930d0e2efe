-- As long as no frame is lost, all nodes agree that all are members.
use Rattle.std.proofs.Common.{◌≡◌, ℕ, zero, suc, ◌<◌, ◌≤◌, ◌⊎◌, Bool, true, false, List, [], ◌∷◌, length, nat_lt, arith, refl, sym, inl, inr, ◌∙◌}
use Rattle.std.proofs.lemmas.Bool.Decides.{eqb_tells, nat_tests}
use Rattle.std.proofs.lemmas.List.FromFn.{get_or-map-range_with_len, length-map-range_with_len}
use Rattle.ttp_model.specs.declared.limits.TheConstants.{MOST_NODES}
use Rattle.ttp_model.specs.Lists.{EachBelow}
use Rattle.medl_tables.specs.declared.row.Row.{Row}
use Rattle.medl_tables.specs.Medl.{Medl}
use Rattle.membership_replay.specs.declared.loss.Loss.{Loss}
use Rattle.membership_replay.specs.declared.state.NodeState.{NodeState}
use Rattle.membership_replay.specs.declared.state.Phase.TheVariants.{Idle, First}
use Rattle.membership_replay.specs.Machine.{has_member, is_same, state_after, step_of}
use Rattle.membership_replay.specs.Trace.{first_state, is_active, is_lost, is_received, next_state, next_states, no_state, row_at, state_at, states_before, takes_messages}

-- a node that has this vector, and isn't in doubt
pub record IsCalm (full : List Bool) (state : NodeState) : Type 0 where
  pub vector : state.vector ≡ full
  pub phase : (state.phase ≡ Idle) ⊎ (state.phase ≡ First)

-- so many nodes, each of which is calm
pub record AreCalm (count : ℕ) (full : List Bool) (states : List NodeState) : Type 0 where
  pub all : length states ≡ count
  pub each : EachBelow count (λ i. IsCalm full (state_at states i))

pub is_same-refl : (v : List Bool) → is_same v v ≡ true
is_same-refl [] = refl
is_same-refl (true ∷ v) = is_same-refl v
is_same-refl (false ∷ v) = is_same-refl v

-- a calm node that receives its own vector stays calm
pub state_after-calm : (full : List Bool) (i s : ℕ) (state : NodeState) (shown : List Bool) → shown ≡ full → IsCalm full state → IsCalm full (state_after (step_of state.phase i true shown state.vector) i s state)
state_after-calm full i s state shown same calm = elim calm.phase [
  | inl idle ↦ rw (idle, same, calm.vector, is_same-refl full) (record { vector = refl; phase = inl refl })
  | inr first ↦ rw (first, same, calm.vector, is_same-refl full) (record { vector = refl; phase = inl refl })
]

module _ (count : ℕ) (full : List Bool) (members : EachBelow count (λ i. has_member full i ≡ true)) (losses : List Loss) (row : Row) (heard : EachBelow count (λ i. is_lost losses row i ≡ false)) (states : List NodeState) (calm : AreCalm count full states) (sender : row.sender < count) where
  pub is_active-calm : (i : ℕ) → i < count → is_active states i ≡ true
  is_active-calm i inside = rw ((calm.each i inside).vector) (members i inside)

  pub is_received-calm : (i : ℕ) → i < count → is_received row losses states i ≡ true
  is_received-calm i inside = rw (is_active-calm row.sender sender, heard i inside) refl

  pub next_state-calm : (i : ℕ) → i < count → IsCalm full (next_state row losses states i)
  unfolding next_state
  next_state-calm i inside = rw (is_active-calm i inside) (elim (eqb_tells i row.sender) [
    | inl same ↦ rw same.0 (record { vector = (calm.each i inside).vector; phase = inr refl })
    | inr differ ↦ rw (differ.0, is_received-calm i inside) (state_after-calm full i row.sender (state_at states i) (state_at states row.sender).vector (calm.each row.sender sender).vector (calm.each i inside))
  ])

  next_state-read : (i : ℕ) → i < count → state_at (next_states row losses states) i ≡ next_state row losses states i
  next_state-read i inside = get_or-map-range_with_len (next_state row losses states) 0 (length states) i i no_state (omega (arith, inside, calm.all)) (omega arith)

  pub next_states-calm : AreCalm count full (next_states row losses states)
  next_states-calm = record {
    all = length-map-range_with_len (next_state row losses states) 0 (length states) ∙ calm.all;
    each = λ i inside. rw (next_state-read i inside) (next_state-calm i inside);
  }

  -- it takes what the frame has for it
  pub takes_messages-calm : (i : ℕ) → i < count → takes_messages row losses states i ≡ true
  takes_messages-calm i inside =
      rw (is_received-calm i inside, (next_state-calm i inside).vector, members i inside, (calm.each row.sender sender).vector, is_same-refl full) refl

-- the states before every slot are calm, where each slot has a sender and no frame before it is lost
pub states_before-calm : (t : Medl) (losses : List Loss) (full : List Bool) → EachBelow (length t.rows) (λ i. has_member full i ≡ true) → full ≡ (first_state (length t.rows)).vector → (slot : ℕ) → EachBelow slot (λ k. (row_at t 0 k).sender < length t.rows) → EachBelow slot (λ k. EachBelow (length t.rows) (λ i. is_lost losses (row_at t 0 k) i ≡ false)) → AreCalm (length t.rows) full (states_before t losses slot)
unfolding states_before
states_before-calm t losses full members is zero senders heard =
    let count = length t.rows in
    record {
      all = length-map-range_with_len (λ i. first_state count) 0 count;
      each = λ i inside. rw (get_or-map-range_with_len (λ i. first_state count) 0 count i i no_state inside (omega arith)) (record { vector = sym is; phase = inl refl });
    }
states_before-calm t losses full members is (suc slot) senders heard =
    let before = states_before-calm t losses full members is slot (λ k inside. senders k (omega (arith, inside))) (λ k inside. heard k (omega (arith, inside))) in
    next_states-calm (length t.rows) full members losses (row_at t 0 slot) (heard slot (omega arith)) (states_before t losses slot) before (senders slot (omega arith))

-- the first vector has all nodes
pub first_state-members : (count : ℕ) → count ≤ MOST_NODES → EachBelow count (λ i. has_member (first_state count).vector i ≡ true)
first_state-members count few i inside =
    rw (get_or-map-range_with_len (λ k. nat_lt k count) 0 MOST_NODES i i false (omega arith) (omega arith)) (grind (arith, nat_tests))
