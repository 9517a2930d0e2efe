use Rattle.std.proofs.Common.{arith, length, refl, ap, below_more}
use Rattle.std.proofs.lemmas.Bool.{false≢true}
use Rattle.ttp_model.specs.Plans.{HasOwnCapacity}
use Rattle.plan_check.proofs.lists.first_wrong_capacity.Goals as goal

pub returns-then-not-has_own_capacity : goal.returns-then-not-has_own_capacity
returns-then-not-has_own_capacity c = record {
  within = omega (arith, ap length c.nodes-count.ensures.value);
  fails = λ own. false≢true (c.if-not-has_own_capacity.ensures.1 own);
  holds_before = c.loop-n.invariant;
}

pub loop-n-preserved : goal.loop-n-preserved
loop-n-preserved c =
    let own = HasOwnCapacity c.args.instance.now c.args.plan.now.caps in
    below_more own _ c.loop-n.invariant (c.if-not-has_own_capacity.ensures.0 refl)

pub returns : goal.returns
returns c = λ n inside. c.loop-n.invariant n (omega (arith, ap length c.nodes-count.ensures.value))
