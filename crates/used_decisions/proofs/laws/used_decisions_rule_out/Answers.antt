use Rattle.tt_infer.specs.RuledOut.{by_leaf}
use Rattle.tt_infer.proofs.shared.RuledOut.{none_left}
use Rattle.tt_infer.proofs.shared.Uses.{leaf_kept}
use Rattle.used_decisions.proofs.laws.used_decisions_rule_out.Goals as goal

pub returns : goal.returns
returns c = record {
  closes = leaf_kept;
  none_left = λ i low ms leaf w are places within uses closes. none_left i low w ms (by_leaf ms leaf within closes uses) are places;
}
