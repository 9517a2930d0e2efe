use Rattle.ttp_model.proofs.FaultyPlans.{faulty_is_not_valid}
use Rattle.evidence.proofs.Judged.{delay_is_told, fault_is_told}
use Rattle.evidence.proofs.TwoChannels.{one_on_each, together, doubled}
use Rattle.ttp_model.specs.declared.fault.PlanFault.TheVariants.{OverfullOn}
use Rattle.evidence.proofs.model.two_channels.plans_on_two_channels.Goals as goal

pub returns-clause-valid : goal.returns-clause-valid
returns-clause-valid c = λ same alike. delay_is_told _ _ _ _ _ same alike one_on_each c.check.ensures.only c.check.ensures.delay

pub returns-clause-together : goal.returns-clause-together
returns-clause-together c = λ same alike. fault_is_told _ _ _ _ _ same alike (faulty_is_not_valid _ _ (OverfullOn 0 0 0) together) c.check.ensures.ok

pub returns-clause-doubled : goal.returns-clause-doubled
returns-clause-doubled c = λ same alike. fault_is_told _ _ _ _ _ same alike (faulty_is_not_valid _ _ (OverfullOn 0 0 1) doubled) c.check.ensures.ok
