-- One frame is lost at all receivers: all others drop its sender, the next frame leaves it in doubt, and by the one
-- after that it leaves.
use Rattle.std.proofs.Common.{◌≡◌, ◌≢◌, ℕ, zero, suc, ◌<◌, ◌==◌, Bool, true, false, List, [], ◌∷◌, length, arith, refl, sym, inl, inr, ◌∙◌}
use Rattle.std.proofs.lemmas.Bool.{false≢true}
use Rattle.std.proofs.lemmas.Bool.Decides.{eqb_tells}
use Rattle.std.proofs.lemmas.List.{get_or-set_other, get_or-set_same}
use Rattle.std.proofs.lemmas.List.FromFn.{get_or-map-range_with_len, length-map-range_with_len}
use Rattle.ttp_model.specs.Lists.{EachBelow}
use Rattle.medl_tables.specs.declared.row.Row.{Row}
use Rattle.membership_replay.specs.declared.loss.Loss.{Loss}
use Rattle.membership_replay.specs.declared.state.NodeState.{NodeState}
use Rattle.membership_replay.specs.declared.state.Phase.{Phase}
use Rattle.membership_replay.specs.declared.state.Phase.TheVariants.{First, Second}
use Rattle.membership_replay.specs.Machine.{has_member, is_same, state_after, step_of, without}
use Rattle.membership_replay.specs.Trace.{is_active, is_lost, next_state, next_states, no_state, state_at}
use Rattle.membership_replay.proofs.Calm.{AreCalm, IsCalm, is_same-refl, state_after-calm}

next_states-read : (row : Row) (losses : List Loss) (states : List NodeState) (i : ℕ) → i < length states → state_at (next_states row losses states) i ≡ next_state row losses states i
next_states-read row losses states i inside = get_or-map-range_with_len (next_state row losses states) 0 (length states) i i no_state inside (omega arith)

without-other : (v : List Bool) (s i : ℕ) → i ≢ s → has_member v i ≡ true → has_member (without v s) i ≡ true
without-other v s i other member = get_or-set_other v s i false false other ∙ member

-- a member is inside the vector
member_inside : (v : List Bool) (s : ℕ) → has_member v s ≡ true → s < length v
member_inside [] s member = absurd (false≢true member)
member_inside (b ∷ v) zero member = omega arith
member_inside (b ∷ v) (suc s) member = omega (arith, member_inside v s member)

pub without-itself : (v : List Bool) (s : ℕ) → has_member v s ≡ true → has_member (without v s) s ≡ false
without-itself v s member = get_or-set_same v s false false (member_inside v s member)

-- vectors that are the same have the same members
same_members : (v w : List Bool) → is_same v w ≡ true → (n : ℕ) → has_member v n ≡ has_member w n
same_members [] [] same n = refl
same_members [] (y ∷ w) same n = absurd (false≢true same)
same_members (x ∷ v) [] same n = absurd (false≢true same)
same_members (true ∷ v) (true ∷ w) same zero = refl
same_members (true ∷ v) (true ∷ w) same (suc n) = same_members v w same n
same_members (false ∷ v) (false ∷ w) same zero = refl
same_members (false ∷ v) (false ∷ w) same (suc n) = same_members v w same n
same_members (true ∷ v) (false ∷ w) same n = absurd (false≢true same)
same_members (false ∷ v) (true ∷ w) same n = absurd (false≢true same)

differ-at : (v w : List Bool) (n : ℕ) → has_member v n ≡ false → has_member w n ≡ true → is_same v w ≡ false
differ-at v w n out in' = tell (is_same v w) refl
  where
    tell : (b : Bool) → is_same v w ≡ b → b ≡ false
    tell false e = refl
    tell true e = absurd (false≢true (sym out ∙ same_members v w e n ∙ in'))

-- a calm node that receives nothing drops the sender
step-unheard : (full : List Bool) (i s : ℕ) (state : NodeState) (shown : List Bool) → IsCalm full state → IsCalm (without full s) (state_after (step_of state.phase i false shown state.vector) i s state)
step-unheard full i s state shown calm = elim calm.phase [
  | inl idle ↦ rw (idle, calm.vector) (record { vector = refl; phase = inl refl })
  | inr first ↦ rw (first, calm.vector) (record { vector = refl; phase = inr refl })
]

-- after a slot whose frame was received nowhere: the sender waits, and the others have dropped it and agree
pub record AreWithout (count : ℕ) (full : List Bool) (s : ℕ) (phase : Phase) (states : List NodeState) : Type 0 where
  pub all : length states ≡ count
  pub sender_vector : (state_at states s).vector ≡ full
  pub sender_phase : (state_at states s).phase ≡ phase
  pub others : (i : ℕ) → i < count → i ≢ s → IsCalm (without full s) (state_at states i)

active-by : (v : List Bool) (states : List NodeState) (i : ℕ) → (state_at states i).vector ≡ v → has_member v i ≡ true → is_active states i ≡ true
active-by v states i is member = rw is member

eqb-itself : (n : ℕ) → (n == n) ≡ true
eqb-itself n = elim (eqb_tells n n) [ inl same ↦ same.0 | inr differ ↦ absurd (differ.1 refl) ]

eqb-other : (m n : ℕ) → m ≢ n → (m == n) ≡ false
eqb-other m n other = elim (eqb_tells m n) [ inl same ↦ absurd (other same.1) | inr differ ↦ differ.0 ]

-- a waiting node that sees itself left out is in doubt
step-doubt : (full : List Bool) (s s1 : ℕ) (state : NodeState) (shown : List Bool) → shown ≡ without full s → state.vector ≡ full → state.phase ≡ First → has_member full s ≡ true → let after = state_after (step_of state.phase s true shown state.vector) s s1 state in (after.vector ≡ full) × (after.phase ≡ Second s1)
step-doubt full s s1 state shown same vector phase member =
    rw (phase, vector, same, differ-at (without full s) full s (without-itself full s member) member, is_same-refl (without full s)) (refl, refl)

-- and leaves where the next frame leaves it out too
step-leave : (full : List Bool) (s s1 s2 : ℕ) (state : NodeState) (shown : List Bool) → shown ≡ without full s → state.vector ≡ full → state.phase ≡ Second s1 → s ≢ s1 → has_member full s ≡ true → (state_after (step_of state.phase s true shown state.vector) s s2 state).vector ≡ without full s
step-leave full s s1 s2 state shown same vector phase other member =
    rw (phase, vector, same, differ-at (without full s) (without full s1) s (without-itself full s member) (without-other full s1 s other member), is_same-refl (without full s)) refl

module _ (count : ℕ) (full : List Bool) (members : EachBelow count (λ i. has_member full i ≡ true)) (losses : List Loss) (row : Row) (states : List NodeState) (sender : row.sender < count) where
  -- the slot in which the frame is lost
  pub after-lost : AreCalm count full states → ((i : ℕ) → i < count → i ≢ row.sender → is_lost losses row i ≡ true) → AreWithout count full row.sender First (next_states row losses states)
  unfolding next_state
  after-lost calm lost = record {
    all = length-map-range_with_len (next_state row losses states) 0 (length states) ∙ calm.all;
    sender_vector = rw (next_states-read row losses states row.sender (omega (arith, sender, calm.all))) (at_sender.0);
    sender_phase = rw (next_states-read row losses states row.sender (omega (arith, sender, calm.all))) (at_sender.1);
    others = λ i inside other. rw (next_states-read row losses states i (omega (arith, inside, calm.all))) (at_other i inside other);
  }
    where
      at_sender : ((next_state row losses states row.sender).vector ≡ full) × ((next_state row losses states row.sender).phase ≡ First)
      at_sender =
          let active = active-by full states row.sender (calm.each row.sender sender).vector (members row.sender sender) in
          rw (active, eqb-itself row.sender) ((calm.each row.sender sender).vector, refl)

      at_other : (i : ℕ) → i < count → i ≢ row.sender → IsCalm (without full row.sender) (next_state row losses states i)
      at_other i inside other =
          let active = active-by full states i (calm.each i inside).vector (members i inside) in
          let sends = active-by full states row.sender (calm.each row.sender sender).vector (members row.sender sender) in
          rw (active, eqb-other i row.sender other, sends, lost i inside other) (step-unheard full i row.sender (state_at states i) (state_at states row.sender).vector (calm.each i inside))

module _ (count : ℕ) (full : List Bool) (members : EachBelow count (λ i. has_member full i ≡ true)) (losses : List Loss) (row : Row) (heard : (i : ℕ) → i < count → is_lost losses row i ≡ false) (states : List NodeState) (s : ℕ) (inside : s < count) (sender : row.sender < count) (other : row.sender ≢ s) where
  sends : (phase : Phase) → AreWithout count full s phase states → is_active states row.sender ≡ true
  sends phase w = active-by (without full s) states row.sender (w.others row.sender sender other).vector (without-other full s row.sender other (members row.sender sender))

  -- the slot after it
  pub after-doubt : AreWithout count full s First states → AreWithout count full s (Second row.sender) (next_states row losses states)
  unfolding next_state
  after-doubt w = record {
    all = length-map-range_with_len (next_state row losses states) 0 (length states) ∙ w.all;
    sender_vector = rw (next_states-read row losses states s (omega (arith, inside, w.all))) (at_lost.0);
    sender_phase = rw (next_states-read row losses states s (omega (arith, inside, w.all))) (at_lost.1);
    others = λ i there apart. rw (next_states-read row losses states i (omega (arith, there, w.all))) (at_other i there apart);
  }
    where
      at_lost : ((next_state row losses states s).vector ≡ full) × ((next_state row losses states s).phase ≡ Second row.sender)
      at_lost =
          let active = active-by full states s w.sender_vector (members s inside) in
          rw (active, eqb-other s row.sender (λ same. other (sym same)), sends First w, heard s inside) (step-doubt full s row.sender (state_at states s) (state_at states row.sender).vector (w.others row.sender sender other).vector w.sender_vector w.sender_phase (members s inside))

      at_other : (i : ℕ) → i < count → i ≢ s → IsCalm (without full s) (next_state row losses states i)
      at_other i there apart =
          let calm = w.others i there apart in
          let active = active-by (without full s) states i calm.vector (without-other full s i apart (members i there)) in
          rw active (elim (eqb_tells i row.sender) [
            | inl same ↦ rw same.0 (record { vector = calm.vector; phase = inr refl })
            | inr differ ↦ rw (differ.0, sends First w, heard i there) (state_after-calm (without full s) i row.sender (state_at states i) (state_at states row.sender).vector (w.others row.sender sender other).vector calm)
          ])

  -- and the second one after it
  pub after-leave : (s1 : ℕ) → s ≢ s1 → AreWithout count full s (Second s1) states → (state_at (next_states row losses states) s).vector ≡ without full s
  unfolding next_state
  after-leave s1 first w =
      let active = active-by full states s w.sender_vector (members s inside) in
      rw (next_states-read row losses states s (omega (arith, inside, w.all)), active, eqb-other s row.sender (λ same. other (sym same)), sends (Second s1) w, heard s inside) (step-leave full s s1 row.sender (state_at states s) (state_at states row.sender).vector (w.others row.sender sender other).vector w.sender_vector w.sender_phase first (members s inside))
