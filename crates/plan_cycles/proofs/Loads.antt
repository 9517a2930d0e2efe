-- A frame carries messages of its own cycle and round alone.
use Rattle.std.proofs.Common.{◌≡◌, ◌≢◌, ℕ, zero, suc, ◌*◌, ◌<◌, ◌≤◌, ◌==◌, ◌&&◌, Bool, true, false, if◌then◌else◌, length, arith, inl, inr, refl, sym, ap, eq-eqb}
use Rattle.std.proofs.lemmas.Bool.{cases_eq}
use Rattle.std.proofs.lemmas.Bool.Decides.{eqb_tells}
use Rattle.ttp_model.specs.declared.error.Place.TheVariants.{AtCluster, AtProcess}
use Rattle.ttp_model.specs.declared.plan.Plan.{Plan}
use Rattle.ttp_model.specs.Instance.{Instance, message_at, source_of}
use Rattle.ttp_model.specs.Rules.{IsInstance}
use Rattle.ttp_model.specs.Plans.{IsValid, bytes_in, bytes_on, channel_of, is_on, load_on, round_of}
use Rattle.ttp_model.specs.Slots.{round_length}
use Rattle.ttp_model.specs.Totals.{total}
use Rattle.ttp_model.proofs.PlanNumbers.{sender_inside}
use Rattle.ttp_model.proofs.Totals.{total_le, total_more, total_none}
use Rattle.ttp_model.proofs.ValidPlans.{frames_fit_lem}
use Rattle.tt_layout.specs.Cycle.{cycle_rounds}
use Rattle.plan_cycles.specs.Cycles.{CycleSlot, IsCycleSlot, opens_at}
use Rattle.plan_cycles.specs.Frames.{bytes_at, cycle_bytes, sent_at}
use Rattle.plan_cycles.specs.Repeating.{HoldAllFrames}
use Rattle.plan_cycles.proofs.CycleSlots.{slots_in_order}
use Rattle.plan_cycles.proofs.Periods.{round_inside}

if_none : (b : Bool) (x : ℕ) → x ≡ 0 → (if b then x else 0) ≡ 0
if_none true x none = none
if_none false x none = refl

if_le : (b : Bool) (x y : ℕ) → x ≤ y → (if b then x else 0) ≤ (if b then y else 0)
if_le true x y le = le
if_le false x y le = omega arith

-- a sum all of whose terms but one are nothing
one_term : (f : ℕ → ℕ) (count x : ℕ) → ((k : ℕ) → k ≢ x → f k ≡ 0) → total f count ≤ f x
one_term f zero x others = omega arith
one_term f (suc count) x others = elim (cases_eq count x) [
  | inl same ↦ omega (arith, total_more f count, total_none f count (λ k below. others k (λ is. omega (arith, is, below, same))), ap f same)
  | inr other ↦ omega (arith, total_more f count, one_term f count x others, others count other)
]

module _ (i : Instance) (plan : Plan) (w : IsInstance i) (v : IsValid i plan) (period rounds : ℕ) (fits : rounds * round_length i.cluster plan.caps ≤ period) (enough : cycle_rounds i plan ≤ rounds) where
  -- the slot in which message m of cycle c is sent
  abbrev slot_of : ℕ → ℕ → CycleSlot
  slot_of c m = record { cycle = c; round = round_of plan m; node = source_of i m }

  slot_of_is_there : (c m : ℕ) → m < length i.messages → IsCycleSlot rounds i (slot_of c m)
  slot_of_is_there c m inside = record {
    round = omega (arith, round_inside i plan w v m inside, enough);
    node = w.indices (AtProcess (message_at i m).sender) (sender_inside i plan w v m inside);
  }

  module _ (s : CycleSlot) (there : IsCycleSlot rounds i s) where
    -- a slot that begins at that tick is this one
    sent_in : (c m : ℕ) → m < length i.messages → sent_at period i plan c m ≡ opens_at period i plan s → (c ≡ s.cycle) × (round_of plan m ≡ s.round)
    sent_in c m inside begins = elim (slots_in_order i plan v period rounds fits s (slot_of c m) there (slot_of_is_there c m inside)) [
      | inl same ↦ (sym (ap (λ (t : CycleSlot). t.cycle) same), sym (ap (λ (t : CycleSlot). t.round) same))
      | inr apart ↦ elim apart [
        | inl first ↦ absurd (omega (arith, first, begins, (w.ranges AtCluster).head_least))
        | inr second ↦ absurd (omega (arith, second, begins, (w.ranges AtCluster).head_least))
      ]
    ]

    -- the bytes of message m of cycle c in the frame, on whatever channel
    abbrev bytes_there : ℕ → ℕ → ℕ
    bytes_there c m = if source_of i m == s.node && sent_at period i plan c m == opens_at period i plan s then (message_at i m).bytes else 0

    of_other_cycle : (c m : ℕ) → m < length i.messages → c ≢ s.cycle → bytes_there c m ≡ 0
    of_other_cycle c m inside other = elim (eqb_tells (source_of i m) s.node) [
      | inl here ↦ elim (eqb_tells (sent_at period i plan c m) (opens_at period i plan s)) [
        | inl now ↦ absurd (other (sent_in c m inside now.1).0)
        | inr not_now ↦ rw (here.0, not_now.0) refl
      ]
      | inr away ↦ rw away.0 refl
    ]

    of_own_round : (c m : ℕ) → m < length i.messages → bytes_there c m ≤ bytes_in i plan s.node s.round m
    of_own_round c m inside = elim (eqb_tells (source_of i m) s.node) [
      | inl here ↦ elim (eqb_tells (sent_at period i plan c m) (opens_at period i plan s)) [
        | inl now ↦ (let round = eq-eqb (round_of plan m) s.round (sent_in c m inside now.1).1 in rw (here.0, now.0, round) (omega arith))
        | inr not_now ↦ rw (here.0, not_now.0) (omega arith)
      ]
      | inr away ↦ rw away.0 (omega arith)
    ]

    module _ (k : ℕ) where
      cycle_none : (c : ℕ) → c ≢ s.cycle → cycle_bytes period i plan s k c ≡ 0
      cycle_none c other = total_none (bytes_at period i plan s k c) (length i.messages) (λ m inside. if_none (is_on k (channel_of plan m)) (bytes_there c m) (of_other_cycle c m inside other))

      cycle-le : (c : ℕ) → cycle_bytes period i plan s k c ≤ load_on i plan s.node s.round k
      cycle-le c = total_le (bytes_at period i plan s k c) (bytes_on i plan s.node s.round k) (length i.messages) (λ m inside. if_le (is_on k (channel_of plan m)) (bytes_there c m) (bytes_in i plan s.node s.round m) (of_own_round c m inside))

  pub frames_hold : HoldAllFrames period rounds i plan
  frames_hold s k cycles there within =
      let one = one_term (cycle_bytes period i plan s k) cycles s.cycle (cycle_none s there k) in
      omega (arith, one, cycle-le s there k s.cycle, frames_fit_lem i plan s.node s.round k v within)
