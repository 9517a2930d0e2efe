-- The tables that are handed in, before they are judged, as a cluster of several rates.
use Rattle.std.specs.Prelude.{◌≡◌}
use Rattle.rates_model.specs.declared.parts.RatesParts.{RatesParts}
use Rattle.rates_model.specs.declared.rules.RatesTicks.{RatesTicks}
use Rattle.rates_model.specs.Rates.{Rates}
use Rattle.rates_model.specs.Cycles.{cycle, round_of}
use Rattle.rates_model.specs.Rules.{IsRates}

-- what the tables state
abbrev pub rates_of : RatesParts → Rates
rates_of parts = record {
  cluster = parts.cluster;
  nodes = parts.nodes.items;
  processes = parts.processes.items;
  links = parts.links.items;
  messages = parts.messages.items;
  chains = parts.chains.items;
}

-- how many ticks its cycle and its round are
pub record AreTicksOf (rho : Rates) (spans : RatesTicks) : Type 0 where
  pub cycle_is : spans.cycle ≡ cycle rho
  pub round_is : spans.round ≡ round_of rho

-- the tables keep all rules, and these are their spans
pub record AreJudged (parts : RatesParts) (spans : RatesTicks) : Type 0 where
  pub keeps : IsRates (rates_of parts)
  pub spans_are : AreTicksOf (rates_of parts) spans
