use Rattle.std.proofs.Common.{lit<}
use Rattle.ttp_model.specs.Worked.{one_message, one_message_plan}
use Rattle.tt_infer.proofs.OneMessageRules.{one_message_is_instance}
use Rattle.branch_tree.specs.Examples.{one_message_in}
use Rattle.branch_tree.proofs.ClosedClashes.{plan_closed}
use Rattle.branch_tree.proofs.OneMessageChoices.{is_choice, is_complete, is_earliest}
use Rattle.branch_tree.proofs.examples.one_message_in_round_1.Goals as goal

pub returns-clause-instance : goal.returns-clause-instance
returns-clause-instance c = one_message_is_instance

pub returns-clause-choice : goal.returns-clause-choice
returns-clause-choice c = is_choice 1 (lit< tt)

pub returns-clause-complete : goal.returns-clause-complete
returns-clause-complete c = is_complete 1

pub returns-clause-plan : goal.returns-clause-plan
returns-clause-plan c = is_earliest

pub returns-clause-closed : goal.returns-clause-closed
returns-clause-closed c =
    λ at within. plan_closed one_message (one_message_in 1) at one_message_is_instance (is_choice 1 (lit< tt)) (is_complete 1) (one_message_plan 0)
    is_earliest within
