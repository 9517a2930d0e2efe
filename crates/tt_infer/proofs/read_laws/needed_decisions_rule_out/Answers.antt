use Rattle.tt_infer.proofs.shared.RuledOut.{none_left, none_below}
use Rattle.tt_infer.proofs.read_laws.needed_decisions_rule_out.Goals as goal

pub returns : goal.returns
returns c = record { needed = λ i low ms w. none_left i low w ms; below = λ i low ms more w. none_below i low w ms more }
