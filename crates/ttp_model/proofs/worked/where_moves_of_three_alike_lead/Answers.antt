use Rattle.ttp_model.proofs.ThreeAlike.{late_valid, two_moves, first_settled}
use Rattle.ttp_model.proofs.worked.where_moves_of_three_alike_lead.Goals as goal

pub returns-clause-valid : goal.returns-clause-valid
returns-clause-valid c = late_valid

pub returns-clause-leads : goal.returns-clause-leads
returns-clause-leads c = two_moves

pub returns-clause-settled : goal.returns-clause-settled
returns-clause-settled c = first_settled
