-- The room for a slot's names ends by each later slot of its row that carries a message.
use Rattle.std.proofs.Common.{◌≡◌, ℕ, zero, suc, ◌+◌, ◌-◌, ◌<◌, ◌≤◌, ◌==◌, ◌&&◌, true, length, arith, inl, inr, refl}
use Rattle.std.specs.Prelude.{nat_lt}
use Rattle.std.proofs.lemmas.Bool.{and_parts, cases_eq, eqb-true, lt-ltb}
use Rattle.ttp_model.specs.declared.plan.Plan.{Plan}
use Rattle.ttp_model.specs.Instance.{Instance, source_of}
use Rattle.ttp_model.specs.Plans.{bytes_on, channel_of, is_in_frame_on, is_on, load_on, round_of, sent_from}
use Rattle.ttp_model.specs.Slots.{slot_start}
use Rattle.ttp_model.specs.Totals.{total}
use Rattle.ttp_model.proofs.Totals.{total_more}
use Rattle.plan_sheets.specs.declared.slots.Slot.{Slot}
use Rattle.instance_variants.proofs.Least.{least-le}
use Rattle.plan_sheets.specs.declared.pictures.canvas.Canvas.{Canvas}
use Rattle.plan_sheets.specs.Names.{room_of, ticks_to}
use Rattle.plan_sheets.proofs.Loads.{in-frame}

-- a sum above 0 has a term above 0
some-term : (f : ℕ → ℕ) (count : ℕ) → 0 < total f count → (m : ℕ) × (m < count) × (0 < f m)
some-term f zero some = absurd (omega arith)
some-term f (suc count) some = elim (cases_eq (f count) 0) [
  | inl none ↦ (let rest = some-term f count (omega (arith, some, total_more f count, none)) in (rest.0, omega (arith, rest.1), rest.2))
  | inr here ↦ (count, omega arith, omega (arith, here))
]

module _ (canvas : Canvas) (i : Instance) (plan : Plan) (s : Slot) (n r : ℕ) where
  -- to a message in the frame of node n in round r, where that slot comes later
  ticks-there : (m : ℕ) → is_in_frame_on i plan n r s.channel m ≡ true → s.start < slot_start i.cluster plan.order plan.caps n r
      → ticks_to canvas i plan s m ≡ slot_start i.cluster plan.order plan.caps n r - s.start
  ticks-there m here later =
      let parts = and_parts (source_of i m == n && round_of plan m == r) (is_on s.channel (channel_of plan m)) here in
      let both = and_parts (source_of i m == n) (round_of plan m == r) parts.0 in
      let source : source_of i m ≡ n = eqb-true (source_of i m) n both.0 in
      let round : round_of plan m ≡ r = eqb-true (round_of plan m) r both.1 in
      let sent : sent_from i plan m ≡ slot_start i.cluster plan.order plan.caps n r = rw (source, round) refl in
      rw (parts.1, sent, lt-ltb s.start (slot_start i.cluster plan.order plan.caps n r) later) refl

  pub room-ends : 0 < load_on i plan n r s.channel → s.start < slot_start i.cluster plan.order plan.caps n r
      → room_of canvas i plan s ≤ slot_start i.cluster plan.order plan.caps n r - s.start
  room-ends carries later =
      let sent = some-term (bytes_on i plan n r s.channel) (length i.messages) carries in
      let least = least-le (ticks_to canvas i plan s) canvas.cycle (length i.messages) sent.0 sent.1 in
      omega (arith, least, ticks-there sent.0 (in-frame i plan n r s.channel sent.0 sent.2) later)
