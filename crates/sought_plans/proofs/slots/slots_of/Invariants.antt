use Rattle.std.proofs.Common.{◌≡◌, ℕ, ◌<◌, length}
use Rattle.sought_plans.specs.Setting.{AreSlotTimes, AreShort, slot_times_at}
use Rattle.sought_plans.proofs.slots.slots_of.Given as goal

abbrev pub invariant-loop-n : goal.invariant-loop-n
invariant-loop-n l = record {
  count : length l.slots.items ≡ l.n;
  times : (n : ℕ) → n < l.n → AreSlotTimes l.instance l.choice n (slot_times_at l.slots.items n);
  short : (n : ℕ) → n < l.n → AreShort (slot_times_at l.slots.items n);
}
