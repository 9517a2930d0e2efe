use Rattle.ttp_model.proofs.Reached.{leads_valid, leads_delay, leads_weight}
use Rattle.tt_settle.proofs.laws.moves_lead_down.Goals as goal

pub returns-clause-valid : goal.returns-clause-valid
returns-clause-valid c = λ i plan last w. leads_valid i plan last

pub returns-clause-delay : goal.returns-clause-delay
returns-clause-delay c = leads_delay

pub returns-clause-weight : goal.returns-clause-weight
returns-clause-weight c = leads_weight
