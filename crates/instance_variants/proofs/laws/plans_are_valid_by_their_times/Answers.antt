use Rattle.instance_variants.proofs.VariedPlans.{times_with_ends, valid_by_times, valid_with_times}
use Rattle.instance_variants.proofs.laws.plans_are_valid_by_their_times.Goals as goal

pub returns-clause-parts : goal.returns-clause-parts
returns-clause-parts c = λ i v plan rounds channels is alike valid. valid_by_times i v is plan rounds channels alike valid

pub returns-clause-times : goal.returns-clause-times
returns-clause-times c = λ i horizon processes plan differ valid. valid_with_times i horizon processes differ plan valid

pub returns-clause-ends : goal.returns-clause-ends
returns-clause-ends c = λ i horizon processes plan differ valid. times_with_ends i horizon processes differ plan valid
