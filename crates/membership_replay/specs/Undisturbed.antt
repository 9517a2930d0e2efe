-- What a replay is where no frame is lost. Own profile.
use Rattle.std.specs.Prelude.{◌≡◌, ◌≢◌, ℕ, ◌<◌, [], All, Contains, IsTrue, false, length, slice_index_or}
use Rattle.ttp_model.specs.declared.plan.Plan.{Plan}
use Rattle.ttp_model.specs.Lists.{EachBelow}
use Rattle.ttp_model.specs.Instance.{Instance, message_at, node_of, source_of}
use Rattle.ttp_model.specs.Plans.{round_of}
use Rattle.medl_tables.specs.Medl.{Medl}
use Rattle.membership_replay.specs.declared.trace.Event.TheVariants.{Deliver}
use Rattle.membership_replay.specs.declared.trace.Slot.{Slot}
use Rattle.membership_replay.specs.Machine.{has_member}
use Rattle.membership_replay.specs.Trace.{Trace, row_at, slot_count, state_at}

-- at the end each of so many nodes counts all of them as members
abbrev pub AllStayMembers : ℕ → Trace → Type 0
AllStayMembers count r =
    EachBelow count (λ i. EachBelow count (λ n. IsTrue (has_member (state_at r.states i).vector n)))

-- what is read past the end of the slots: no clause reads there
abbrev pub no_slot : Slot
no_slot = record { round = 0; position = 0; sender = 0; sent = false; events = [] }

-- the slot of this number
abbrev pub slot_at : Trace → ℕ → Slot
slot_at r slot = slice_index_or r.slots slot no_slot

-- in its sender's slot of its round, the message is delivered at the node
pub record IsDelivered (i : Instance) (plan : Plan) (r : Trace) (m node : ℕ) : Type 0 where
  pub slot : ℕ
  pub within : slot < length r.slots
  pub round : (slot_at r slot).round ≡ round_of plan m
  pub sender : (slot_at r slot).sender ≡ source_of i m
  pub told : Contains (slot_at r slot).events (Deliver m node)

-- each message of the plan is delivered, in its round, at the node of each of its receivers
abbrev pub EachMessageArrives : Instance → Plan → Trace → Type 0
EachMessageArrives i plan r =
    EachBelow (length i.messages) (λ m. All (λ q. IsDelivered i plan r m (node_of i q)) (message_at i m).receivers)

-- and each entry that the table of a node shows for a slot is delivered there in that slot, but at the sender
abbrev pub AllEntriesArrive : Medl → Trace → Type 0
AllEntriesArrive t r =
    (slot i : ℕ) → slot < slot_count t → i < length t.rows → i ≢ (row_at t 0 slot).sender →
    All (λ e. Contains (slot_at r slot).events (Deliver e.message i)) (row_at t i slot).messages
