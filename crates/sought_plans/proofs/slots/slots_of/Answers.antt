use Rattle.std.proofs.Common.{◌≡◌, ℕ, ◌+◌, ◌<◌, ◌∷◌, ◌++◌, [], List, length, arith, inl, inr, sym, ap, ◌∙◌}
use Rattle.std.proofs.lemmas.Bool.{cases_lt}
use Rattle.std.proofs.Math.ListN.{get_or-append, length-append}
use Rattle.std.proofs.Math.Seq.{get_or-append_seam}
use Rattle.sought_plans.specs.declared.slots.SlotTimes.{SlotTimes}
use Rattle.sought_plans.specs.Setting.{AreSlotTimes, AreShort, slot_times_at, no_slot_times}
use Rattle.sought_plans.proofs.slots.slots_of.Goals as goal

-- what holds of each slot so far, and of one more
one_more : (P : ℕ → SlotTimes → Type 0) (slots : List SlotTimes) (slot : SlotTimes) (n : ℕ) → length slots ≡ n → ((k : ℕ) → k < n → P k (slot_times_at slots k)) → P n slot → (k : ℕ) → k < n + 1 → P k (slot_times_at (slots ++ slot ∷ []) k)
one_more P slots slot n size each last k below = elim (cases_lt k n) [
  | inl before ↦ rw (get_or-append slots (slot ∷ []) no_slot_times k (omega (arith, size, before))) (each k before)
  | inr over ↦
      let same : k ≡ length slots = omega (arith, over, below, size) in
      rw (same, get_or-append_seam slots slot [] no_slot_times) (rw size last)
]

pub loop-n-preserved : goal.loop-n-preserved
loop-n-preserved c =
    let inv = c.loop-n.invariant in
    let items = c.in_ok-push.ensures.items in
    record {
      count = omega (arith, simp length-append at (ap length items), inv.count);
      times = rw items (one_more (AreSlotTimes c.args.instance.now c.args.choice.now) _ _ _ inv.count inv.times c.times_of.ensures.times);
      short = rw items (one_more (λ (k : ℕ) (s : SlotTimes). AreShort s) _ _ _ inv.count inv.short c.times_of.ensures.short);
    }

pub returns : goal.returns
returns c =
    let all : length c.args.instance.now.nodes ≡ c.loop-n.n = omega (arith, ap length c.nodes.ensures.value, c.loop-n.auto.n-end, c.loop-n-test.false) in
    record {
      count = c.loop-n.invariant.count ∙ sym all;
      times = λ n inside. c.loop-n.invariant.times n (omega (arith, inside, all));
      short = λ n inside. c.loop-n.invariant.short n (omega (arith, inside, all));
    }
