use Rattle.ttp_model.proofs.PlanNumbers.{order_small, capacities_small, starts_small, rounds_small, channels_small, delay_small}
use Rattle.ttp_model.proofs.laws.valid_numbers_are_small.Goals as goal

pub returns-clause-order : goal.returns-clause-order
returns-clause-order c = order_small

pub returns-clause-capacities : goal.returns-clause-capacities
returns-clause-capacities c = capacities_small

pub returns-clause-starts : goal.returns-clause-starts
returns-clause-starts c = starts_small

pub returns-clause-rounds : goal.returns-clause-rounds
returns-clause-rounds c = rounds_small

pub returns-clause-channels : goal.returns-clause-channels
returns-clause-channels c = channels_small

pub returns-clause-delay : goal.returns-clause-delay
returns-clause-delay c = delay_small
