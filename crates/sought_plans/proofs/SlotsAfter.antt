-- Slots begin when they began, and are as long, after a decision that neither places a node nor fixes a capacity.
use Rattle.std.proofs.Common.{◌≡◌, ◌⊎◌, ℕ, List, [], inl, inr, subst, sym}
use Rattle.ttp_model.specs.Instance.{Instance}
use Rattle.tt_choice.specs.declared.decision.Decision.{Decision}
use Rattle.tt_choice.specs.declared.decision.Decision.TheVariants.{Before, AtMost, AtLeast, Channel}
use Rattle.tt_choice.specs.Choice.{Choice, bare}
use Rattle.tt_choice.specs.Branches.{order_pair, at_most, at_least, fix_channel}
use Rattle.tt_choice.specs.Decisions.{choice_after}
use Rattle.sought_plans.specs.declared.slots.SlotTimes.{SlotTimes}
use Rattle.tt_choice.proofs.Trail.{IsChoice-keeping}
use Rattle.sought_plans.specs.Setting.{Setting, AreSlotTimes, AreSlots, IsSetting, slot_times_at}

times_after_pair : (i : Instance) (c : Choice) (p q n : ℕ) (s : SlotTimes) → AreSlotTimes i c n s → AreSlotTimes i (order_pair c p q) n s
times_after_pair i c p q n s is = record {
  round_least = is.round_least;
  round_most = is.round_most;
  offset_least = is.offset_least;
  offset_most = is.offset_most;
  dur_least = is.dur_least;
  dur_most = is.dur_most;
  cap_least = is.cap_least;
  cap_most = is.cap_most;
}

times_after_most : (i : Instance) (c : Choice) (m r n : ℕ) (s : SlotTimes) → AreSlotTimes i c n s → AreSlotTimes i (at_most c m r) n s
times_after_most i c m r n s is = record {
  round_least = is.round_least;
  round_most = is.round_most;
  offset_least = is.offset_least;
  offset_most = is.offset_most;
  dur_least = is.dur_least;
  dur_most = is.dur_most;
  cap_least = is.cap_least;
  cap_most = is.cap_most;
}

times_after_least : (i : Instance) (c : Choice) (m r n : ℕ) (s : SlotTimes) → AreSlotTimes i c n s → AreSlotTimes i (at_least c m r) n s
times_after_least i c m r n s is = record {
  round_least = is.round_least;
  round_most = is.round_most;
  offset_least = is.offset_least;
  offset_most = is.offset_most;
  dur_least = is.dur_least;
  dur_most = is.dur_most;
  cap_least = is.cap_least;
  cap_most = is.cap_most;
}

times_after_channel : (i : Instance) (c : Choice) (m k n : ℕ) (s : SlotTimes) → AreSlotTimes i c n s → AreSlotTimes i (fix_channel c m k) n s
times_after_channel i c m k n s is = record {
  round_least = is.round_least;
  round_most = is.round_most;
  offset_least = is.offset_least;
  offset_most = is.offset_most;
  dur_least = is.dur_least;
  dur_most = is.dur_most;
  cap_least = is.cap_least;
  cap_most = is.cap_most;
}

slots_after_pair : (i : Instance) (c : Choice) (p q : ℕ) (slots : List SlotTimes) → AreSlots i c slots → AreSlots i (order_pair c p q) slots
slots_after_pair i c p q slots are = record { count = are.count; times = λ n inside. times_after_pair i c p q n (slot_times_at slots n) (are.times n inside); short = are.short }

slots_after_most : (i : Instance) (c : Choice) (m r : ℕ) (slots : List SlotTimes) → AreSlots i c slots → AreSlots i (at_most c m r) slots
slots_after_most i c m r slots are = record { count = are.count; times = λ n inside. times_after_most i c m r n (slot_times_at slots n) (are.times n inside); short = are.short }

slots_after_least : (i : Instance) (c : Choice) (m r : ℕ) (slots : List SlotTimes) → AreSlots i c slots → AreSlots i (at_least c m r) slots
slots_after_least i c m r slots are = record { count = are.count; times = λ n inside. times_after_least i c m r n (slot_times_at slots n) (are.times n inside); short = are.short }

slots_after_channel : (i : Instance) (c : Choice) (m k : ℕ) (slots : List SlotTimes) → AreSlots i c slots → AreSlots i (fix_channel c m k) slots
slots_after_channel i c m k slots are = record { count = are.count; times = λ n inside. times_after_channel i c m k n (slot_times_at slots n) (are.times n inside); short = are.short }

pub slots_kept : (i : Instance) (c : Choice) (d : Decision) (slots : List SlotTimes) → ((p : ℕ) × (q : ℕ) × (d ≡ Before p q)) ⊎ (((m : ℕ) × (r : ℕ) × (d ≡ AtMost m r)) ⊎ (((m : ℕ) × (r : ℕ) × (d ≡ AtLeast m r)) ⊎ ((m : ℕ) × (k : ℕ) × (d ≡ Channel m k)))) → AreSlots i c slots → AreSlots i (choice_after i c d) slots
slots_kept i c d slots (inl is) are = subst (λ (x : Decision). AreSlots i (choice_after i c x) slots) (sym is.2) (slots_after_pair i c is.0 is.1 slots are)
slots_kept i c d slots (inr (inl is)) are = subst (λ (x : Decision). AreSlots i (choice_after i c x) slots) (sym is.2) (slots_after_most i c is.0 is.1 slots are)
slots_kept i c d slots (inr (inr (inl is))) are = subst (λ (x : Decision). AreSlots i (choice_after i c x) slots) (sym is.2) (slots_after_least i c is.0 is.1 slots are)
slots_kept i c d slots (inr (inr (inr is))) are = subst (λ (x : Decision). AreSlots i (choice_after i c x) slots) (sym is.2) (slots_after_channel i c is.0 is.1 slots are)

-- Slots are as they were where no decision is kept.
times_bare : (i : Instance) (c : Choice) (n : ℕ) (s : SlotTimes) → AreSlotTimes i c n s → AreSlotTimes i (bare c) n s
times_bare i c n s is = record {
  round_least = is.round_least;
  round_most = is.round_most;
  offset_least = is.offset_least;
  offset_most = is.offset_most;
  dur_least = is.dur_least;
  dur_most = is.dur_most;
  cap_least = is.cap_least;
  cap_most = is.cap_most;
}

pub setting_bare : (s : Setting) (slots : List SlotTimes) → IsSetting s slots → IsSetting (record s { choice = bare s.choice }) slots
setting_bare s slots is = record {
  instance = is.instance;
  choice = IsChoice-keeping s.instance s.choice [] is.choice;
  slots = record { count = is.slots.count; times = λ n inside. times_bare s.instance s.choice n (slot_times_at slots n) (is.slots.times n inside); short = is.slots.short };
}
