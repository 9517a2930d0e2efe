-- One rule more, and all rules together, from those before the last two and these.
use Rattle.std.proofs.Common.{◌<◌, arith}
use Rattle.rates_model.specs.Rates.{Rates}
use Rattle.rates_model.specs.Rules.{Lengths, Receivers, Throughs, Names, NewNames, Indices, Ranges, Rooms, Chains, Slots, Cycles, Rounds, RatesRule, IsRates, KeepsRatesRule}
use Rattle.rates_model.specs.Refusals.{KeepsRatesRulesBefore, rates_rule_number}

-- those before the rule on the round that is asked for, and that rule
pub before_cycles : (rho : Rates) → KeepsRatesRulesBefore rho Slots → KeepsRatesRule rho Slots → KeepsRatesRulesBefore rho Cycles
before_cycles rho before last = record { each = each }
  where
    each : (earlier : RatesRule) → rates_rule_number earlier < rates_rule_number Cycles → KeepsRatesRule rho earlier
    each Lengths lower = before.each Lengths (omega arith)
    each Receivers lower = before.each Receivers (omega arith)
    each Throughs lower = before.each Throughs (omega arith)
    each Names lower = before.each Names (omega arith)
    each NewNames lower = before.each NewNames (omega arith)
    each Indices lower = before.each Indices (omega arith)
    each Ranges lower = before.each Ranges (omega arith)
    each Rooms lower = before.each Rooms (omega arith)
    each Chains lower = before.each Chains (omega arith)
    each Slots lower = last
    each Cycles lower = absurd (omega (arith, lower))
    each Rounds lower = absurd (omega (arith, lower))

-- those before the rule on the cycle, and that rule
pub before_rounds : (rho : Rates) → KeepsRatesRulesBefore rho Cycles → KeepsRatesRule rho Cycles → KeepsRatesRulesBefore rho Rounds
before_rounds rho before last = record { each = each }
  where
    each : (earlier : RatesRule) → rates_rule_number earlier < rates_rule_number Rounds → KeepsRatesRule rho earlier
    each Lengths lower = before.each Lengths (omega arith)
    each Receivers lower = before.each Receivers (omega arith)
    each Throughs lower = before.each Throughs (omega arith)
    each Names lower = before.each Names (omega arith)
    each NewNames lower = before.each NewNames (omega arith)
    each Indices lower = before.each Indices (omega arith)
    each Ranges lower = before.each Ranges (omega arith)
    each Rooms lower = before.each Rooms (omega arith)
    each Chains lower = before.each Chains (omega arith)
    each Slots lower = before.each Slots (omega arith)
    each Cycles lower = last
    each Rounds lower = absurd (omega (arith, lower))

pub rates_from : (rho : Rates) → KeepsRatesRulesBefore rho Cycles → KeepsRatesRule rho Cycles → KeepsRatesRule rho Rounds → IsRates rho
rates_from rho before cycles rounds = record {
  limits = before.each Lengths (omega arith);
  receivers = before.each Receivers (omega arith);
  throughs = before.each Throughs (omega arith);
  names = before.each Names (omega arith);
  new_names = before.each NewNames (omega arith);
  indices = before.each Indices (omega arith);
  ranges = before.each Ranges (omega arith);
  rooms = before.each Rooms (omega arith);
  chains = before.each Chains (omega arith);
  slots = before.each Slots (omega arith);
  cycles = cycles;
  rounds = rounds;
}
