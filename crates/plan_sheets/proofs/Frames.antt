-- A slot names what is there.
use Rattle.std.proofs.Common.{ℕ, ◌<◌, All, length, slice_index, arith}
use Rattle.std.specs.List.{range_with_len}
use Rattle.std.proofs.lemmas.List.Elements.{All-filter}
use Rattle.std.proofs.lemmas.List.FromFn.{get_or-range_with_len, length-range_with_len}
use Rattle.ttp_model.specs.declared.plan.Plan.{Plan}
use Rattle.ttp_model.specs.Instance.{Instance}
use Rattle.ttp_model.specs.Plans.{IsValid, is_in_frame_on}
use Rattle.plan_facts.specs.Frames.{messages_on}
use Rattle.plan_sheets.specs.Slots.{IsSlotRow, slot_of}

module _ (i : Instance) (plan : Plan) (n r c : ℕ) where
  pub messages-there : All (λ m. m < length i.messages) (messages_on i plan n r c)
  messages-there = All-filter (is_in_frame_on i plan n r c) (λ m. m < length i.messages) (range_with_len 0 (length i.messages)) each
    where
      each : All (λ m. m < length i.messages) (range_with_len 0 (length i.messages))
      each k d inside =
          let below : k < length i.messages = omega (arith, inside, length-range_with_len 0 (length i.messages)) in
          omega (arith, below, get_or-range_with_len 0 (length i.messages) k d below)

pub slot-there : (i : Instance) (plan : Plan) (r k c : ℕ) → IsValid i plan → k < length i.nodes → IsSlotRow i (slot_of i plan r k c)
slot-there i plan r k c w inside = record { node = (w.order.each k inside).node; messages = messages-there i plan (slice_index plan.order k) r c }
