use Rattle.tt_infer.proofs.FirstFacts.{first_facts_fit, first_facts_hold}
use Rattle.tt_infer.proofs.laws.first_facts_hold.Goals as goal

pub returns : goal.returns
returns c = record { holds = first_facts_hold; fits = first_facts_fit }
