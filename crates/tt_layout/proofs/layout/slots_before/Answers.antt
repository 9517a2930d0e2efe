use Rattle.std.proofs.Common.{◌≡◌, ◌==◌, ◌+◌, ℕ, List, ◌∷◌, slice_index, sum_by, drop, arith}
use Rattle.std.specs.List.{before_first}
use Rattle.std.proofs.lemmas.List.{at_drop_more}
use Rattle.ttp_model.specs.Slots.{duration}
use Rattle.ttp_model.proofs.Totals.{before_other}
use Rattle.tt_layout.proofs.layout.slots_before.Goals as goal

pub loop-m-preserved : goal.loop-m-preserved
loop-m-preserved c =
    let k = c.loop-m.m-index in
    let order = c.args.order.now in
    let m = slice_index order k in
    let f = duration c.args.c.now c.args.caps.now in
    let before = λ (xs : List ℕ). sum_by f (before_first (λ k. k == c.args.n) xs) in
    let cut : before (drop k order) ≡ before (m ∷ drop (k + 1) order) = at_drop_more before order k 0 c.loop-m-test.true in
    let other = before_other f c.args.n m (drop (k + 1) order) c.if-m-n.false in
    let length : c.slot_duration-total.result ≡ f m = c.slot_duration-total.ensures.length in
    (omega (arith, c.loop-m.invariant.0, cut, other, length), omega (arith, c.loop-m.invariant.1, c.slot_duration-total.ensures.bound))
