use Rattle.std.proofs.Common.{lit<}
use Rattle.ttp_model.specs.Worked.{one_message}
use Rattle.tt_infer.proofs.OneMessageRules.{one_message_is_instance}
use Rattle.earliest_starts.specs.declared.clash.Clash.TheVariants.{Round}
use Rattle.branch_tree.specs.Examples.{one_message_in}
use Rattle.branch_tree.proofs.ClosedClashes.{clash_closed}
use Rattle.branch_tree.proofs.OneMessageChoices.{is_choice, is_complete, misses_slot}
use Rattle.branch_tree.proofs.examples.one_message_in_round_0.Goals as goal

pub returns-clause-choice : goal.returns-clause-choice
returns-clause-choice c = is_choice 0 (lit< tt)

pub returns-clause-complete : goal.returns-clause-complete
returns-clause-complete c = is_complete 0

pub returns-clause-clash : goal.returns-clause-clash
returns-clause-clash c = misses_slot

pub returns-clause-closed : goal.returns-clause-closed
returns-clause-closed c =
    λ at. clash_closed one_message (one_message_in 0) at one_message_is_instance (is_choice 0 (lit< tt)) (is_complete 0) (Round 0) misses_slot
