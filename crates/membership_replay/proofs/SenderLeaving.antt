-- A sender whose one frame is lost everywhere is dropped, and leaves in the second slot after it.
use Rattle.std.proofs.Common.{◌≡◌, ◌≢◌, ℕ, suc, ◌+◌, ◌<◌, ◌≤◌, List, length, arith, refl, sym, add-one}
use Rattle.ttp_model.specs.Lists.{EachBelow}
use Rattle.ttp_model.specs.declared.limits.TheConstants.{MOST_NODES}
use Rattle.ttp_model.specs.Instance.{Instance}
use Rattle.ttp_model.specs.Rules.{IsInstance}
use Rattle.medl_tables.specs.Medl.{AreTables, Medl}
use Rattle.medl_tables.proofs.TableParts.{tables-length}
use Rattle.membership_replay.specs.declared.loss.Loss.{Loss}
use Rattle.membership_replay.specs.declared.state.Phase.TheVariants.{First, Second}
use Rattle.membership_replay.specs.Trace.{first_state, row_at, slot_count, states_before}
use Rattle.membership_replay.specs.LostFrames.{LosesOneFrame, SenderLeaves}
use Rattle.membership_replay.proofs.Calm.{AreCalm, first_state-members, states_before-calm}
use Rattle.membership_replay.proofs.Senders.{HasThreeSenders, three_senders}
use Rattle.membership_replay.proofs.TableSlots.{senders_inside}
use Rattle.membership_replay.proofs.LostFrame.{AreWithout, after-doubt, after-leave, after-lost, without-itself}

module _ (t : Medl) (losses : List Loss) (slot : ℕ) (few : length t.rows ≤ MOST_NODES) (senders : EachBelow (slot_count t) (λ k. (row_at t 0 k).sender < length t.rows)) (lost : LosesOneFrame t losses slot) (three : HasThreeSenders t slot) (room : slot + 2 < slot_count t) where
  calm : AreCalm (length t.rows) (first_state (length t.rows)).vector (states_before t losses slot)
  calm = states_before-calm t losses (first_state (length t.rows)).vector (first_state-members (length t.rows) few) refl slot (λ k h. senders k (omega (arith, h, room))) (λ k h. lost.alone k (omega (arith, h, room)) (omega (arith, h)))

  dropped : AreWithout (length t.rows) (first_state (length t.rows)).vector (row_at t 0 slot).sender First (states_before t losses (suc slot))
  unfolding states_before
  dropped = after-lost (length t.rows) (first_state (length t.rows)).vector (first_state-members (length t.rows) few) losses (row_at t 0 slot) (states_before t losses slot) (senders slot (omega (arith, room))) calm lost.everywhere

  in_doubt : AreWithout (length t.rows) (first_state (length t.rows)).vector (row_at t 0 slot).sender (Second (row_at t 0 (suc slot)).sender) (states_before t losses (suc (suc slot)))
  unfolding states_before
  in_doubt = after-doubt (length t.rows) (first_state (length t.rows)).vector (first_state-members (length t.rows) few) losses (row_at t 0 (suc slot)) (lost.alone (suc slot) (omega (arith, room)) (omega arith)) (states_before t losses (suc slot)) (row_at t 0 slot).sender (senders slot (omega (arith, room))) (senders (suc slot) (omega (arith, room))) (rw add-one at three.first) dropped

  pub sender_leaves : SenderLeaves t losses slot
  unfolding states_before
  sender_leaves =
      let s = (row_at t 0 slot).sender in
      let full = (first_state (length t.rows)).vector in
      let members = first_state-members (length t.rows) few in
      let inside : s < length t.rows = senders slot (omega (arith, room)) in
      let first : (row_at t 0 (suc slot)).sender ≢ s = rw add-one at three.first in
      let two : slot + 2 ≡ suc (suc slot) = omega arith in
      let second : (row_at t 0 (suc (suc slot))).sender ≢ s = rw two at three.second in
      let last = after-leave (length t.rows) full members losses (row_at t 0 (suc (suc slot))) (lost.alone (suc (suc slot)) (omega (arith, room)) (omega arith)) (states_before t losses (suc (suc slot))) s inside (senders (suc (suc slot)) (omega (arith, room))) second (row_at t 0 (suc slot)).sender (λ same. first (sym same)) in_doubt in
      let three_more : slot + 3 ≡ suc (suc (suc slot)) = omega arith in
      record {
        dropped = λ i there other. rw add-one ((dropped.others i there other).vector);
        stands = rw (two, in_doubt.sender_vector) (members s inside);
        left = rw (three_more, last) (without-itself full s (members s inside));
      }

-- so it is in the tables of every plan of an instance of three nodes or more
pub lost_sender_leaves : (i : Instance) (t : Medl) (losses : List Loss) (slot : ℕ) → IsInstance i → AreTables i t → 3 ≤ length i.nodes → LosesOneFrame t losses slot → slot + 2 < slot_count t → SenderLeaves t losses slot
lost_sender_leaves i t losses slot w tables enough lost room =
    let few : length t.rows ≤ MOST_NODES = omega (arith, tables-length i t tables, w.limits.nodes) in
    let some = w.limits.nodes_least in
    sender_leaves t losses slot few (senders_inside i t tables some) lost (three_senders i t tables some slot enough room) room
