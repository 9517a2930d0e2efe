use Rattle.std.proofs.Common.{◌-◌, length, arith, sym, ◌∙◌, below_more}
use Rattle.std.proofs.lemmas.List.Sums.{sum_by_more}
use Rattle.ttp_model.specs.Totals.{total}
use Rattle.ttp_model.proofs.Totals.{term_in_total}
use Rattle.tt_choice.specs.Extremes.{dur_most}
use Rattle.tt_choice.proofs.Places.{found_here, found_nowhere}
use Rattle.tt_choice.proofs.choice.Choice.offset_most.Goals as goal

pub returns-then-m-n-clause-value : goal.returns-then-m-n-clause-value
returns-then-m-n-clause-value c =
    let inside = rw c.prefix-m-items.ensures at c.loop-m-test.true in
    let same = rw c.prefix-m-items.ensures at c.if-m-n.true in
    c.loop-m.invariant.0 ∙ sym (found_here (dur_most c.args.instance.now c.args.self.now) c.args.n c.args.self.now.prefix c.loop-m.m-index _ inside same c.loop-m.invariant.2)

pub loop-m-preserved : goal.loop-m-preserved
loop-m-preserved c =
    let inside = rw c.prefix-m-items.ensures at c.loop-m-test.true in
    let more = sum_by_more (dur_most c.args.instance.now c.args.self.now) c.args.self.now.prefix c.loop-m.m-index 0 inside in
    let value = rw c.prefix-m-items.ensures at c.dur_most-sum.ensures.value in
    (omega (arith, c.loop-m.invariant.0, more, value), omega (arith, c.loop-m.invariant.1, c.dur_most-sum.ensures.bound), below_more _ _ c.loop-m.invariant.2 (rw c.prefix-m-items.ensures at c.if-m-n.false))

pub overflow_sub-result : goal.overflow_sub-result
overflow_sub-result c = omega (arith, term_in_total (dur_most c.args.instance.now c.args.self.now) (length c.args.instance.now.nodes) c.args.n c.requires.node, c.round_most-round.ensures.value, c.dur_most-own.ensures.value)

pub returns-clause-value : goal.returns-clause-value
returns-clause-value c =
    let f = dur_most c.args.instance.now c.args.self.now in
    let is = found_nowhere f c.args.n c.args.self.now.prefix c.loop-m.m-index (total f (length c.args.instance.now.nodes) - f c.args.n) (rw c.prefix-m-items.ensures at c.loop-m-test.false) c.loop-m.invariant.2 in
    omega (arith, is, c.round_most-round.ensures.value, c.dur_most-own.ensures.value)
