use Rattle.sought_plans.specs.Known.{first_facts}
use Rattle.tt_infer.proofs.Leaves.{leaf_leaves_none, fault-no_Lead}
use Rattle.tt_infer.proofs.laws.leaves_rule_out.Goals as goal

pub returns : goal.returns
returns c = record {
  none_left = leaf_leaves_none;
  refused = λ i ch aim steps others g step fault lead is closes. fault-no_Lead i ch aim (first_facts i ch) steps g step fault others closes.0 lead is closes.1;
}
