use Rattle.std.proofs.Common.{arith, below_more}
use Rattle.std.proofs.lemmas.Bool.{both_ways}
use Rattle.rates_model.proofs.rules.names.first_repeated.Goals as goal

pub returns-then-not-is_new_name : goal.returns-then-not-is_new_name
returns-then-not-is_new_name g c = λ d. record {
  within = omega arith;
  fails = λ each. both_ways _ c.if-not-is_new_name.true ((c.is_new_name.ensures d).1 each);
  holds_before = c.loop-n.invariant d;
}

pub loop-n-preserved : goal.loop-n-preserved
loop-n-preserved g c = λ d. below_more _ _ (c.loop-n.invariant d) ((c.is_new_name.ensures d).0 c.if-not-is_new_name.false)
