-- What a cluster of several rates keeps of one of its parts, which is read at an index.
use Rattle.std.proofs.Common.{◌≡◌, ℕ, ◌<◌, ◌≤◌, length, All}
use Rattle.rates_model.specs.declared.parts.RatesProcess.{RatesProcess}
use Rattle.rates_model.specs.declared.parts.RatesLink.{RatesLink}
use Rattle.rates_model.specs.declared.parts.RatesMessage.{RatesMessage}
use Rattle.rates_model.specs.declared.parts.Chain.{Chain}
use Rattle.rates_model.specs.declared.error.RatesPlace.TheVariants.{AtProcess, AtLink, AtMessage, AtChain}
use Rattle.rates_model.specs.Limits.{least_through, most_through}
use Rattle.ttp_model.specs.Limits.{most_ticks}
use Rattle.rates_model.specs.Rates.{Rates, process_at, link_at, message_at, chain_at}
use Rattle.rates_model.specs.Rules.{AreTicks, IsRates, IsRatesProcess}

module _ (rho : Rates) (w : IsRates rho) (p : ℕ) (process : RatesProcess) (inside : p < length rho.processes) (is : process ≡ process_at rho p) where
  pub node_inside : process.node < length rho.nodes
  node_inside = rw is (w.indices (AtProcess p) inside)

  pub period_inside : AreTicks process.period
  period_inside = rw is (w.ranges (AtProcess p) inside)

module _ (rho : Rates) (w : IsRates rho) (l : ℕ) (link : RatesLink) (inside : l < length rho.links) (is : link ≡ link_at rho l) where
  pub before_inside : IsRatesProcess rho link.before
  before_inside = rw is (w.indices (AtLink l) inside).0

  pub after_inside : IsRatesProcess rho link.after
  after_inside = rw is (w.indices (AtLink l) inside).1

module _ (rho : Rates) (w : IsRates rho) (m : ℕ) (message : RatesMessage) (inside : m < length rho.messages) (is : message ≡ message_at rho m) where
  pub sender_inside : IsRatesProcess rho message.sender
  sender_inside = rw is (w.indices (AtMessage m) inside).0

  pub receivers_inside : All (IsRatesProcess rho) message.receivers
  receivers_inside = rw is (w.indices (AtMessage m) inside).1

module _ (rho : Rates) (w : IsRates rho) (c : ℕ) (chain : Chain) (inside : c < length rho.chains) (is : chain ≡ chain_at rho c) where
  pub through_least : least_through ≤ length chain.through
  through_least = rw is (w.throughs c inside).least

  pub through_most : length chain.through ≤ most_through
  through_most = rw is (w.throughs c inside).most

  pub through_inside : All (IsRatesProcess rho) chain.through
  through_inside = rw is (w.indices (AtChain c) inside)

  pub age_inside : chain.age ≤ most_ticks
  age_inside = rw is (w.ranges (AtChain c) inside).1
