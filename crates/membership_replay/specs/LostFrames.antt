-- What membership does where one frame alone is lost, at all its receivers. Own profile.
use Rattle.std.specs.Prelude.{◌≡◌, ◌≢◌, ℕ, ◌+◌, ◌<◌, List, true, false, length}
use Rattle.medl_tables.specs.Medl.{Medl}
use Rattle.membership_replay.specs.declared.loss.Loss.{Loss}
use Rattle.membership_replay.specs.Machine.{has_member, without}
use Rattle.membership_replay.specs.Trace.{first_state, is_lost, row_at, slot_count, state_at, states_before}

-- each node but its sender loses the frame of this slot, and none loses a frame of another slot
pub record LosesOneFrame (t : Medl) (losses : List Loss) (slot : ℕ) : Type 0 where
  pub everywhere : (i : ℕ) → i < length t.rows → i ≢ (row_at t 0 slot).sender →
      is_lost losses (row_at t 0 slot) i ≡ true
  pub alone : (k : ℕ) → k < slot_count t → k ≢ slot → (i : ℕ) → i < length t.rows →
      is_lost losses (row_at t 0 k) i ≡ false

-- All others drop the slot's sender in that slot, and agree that all but it are members. The sender still counts itself
-- as a member before the second slot after it, and leaves in that slot.
pub record SenderLeaves (t : Medl) (losses : List Loss) (slot : ℕ) : Type 0 where
  pub dropped : (i : ℕ) → i < length t.rows → i ≢ (row_at t 0 slot).sender →
      (state_at (states_before t losses (slot + 1)) i).vector ≡ without (first_state (length t.rows)).vector (row_at t 0 slot).sender
  pub stands : has_member (state_at (states_before t losses (slot + 2)) (row_at t 0 slot).sender).vector (row_at t 0 slot).sender ≡ true
  pub left : has_member (state_at (states_before t losses (slot + 3)) (row_at t 0 slot).sender).vector (row_at t 0 slot).sender ≡ false
