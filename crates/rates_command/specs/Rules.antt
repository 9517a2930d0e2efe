-- Which numbers and names a broken rule of a cluster of several rates is told with. Own profile.
use Rattle.std.specs.Prelude.{◌≡◌, ℕ, ◌-◌, Some, length, slice_index}
use Rattle.instance_reasons.specs.Malformed.{IsNameFault}
use Rattle.rates_model.specs.declared.error.RatesPart.{RatesPart}
use Rattle.rates_model.specs.declared.error.RatesPart.TheVariants.{Nodes, Processes, Links, Messages, Chains}
use Rattle.rates_model.specs.declared.error.RatesPlace.{RatesPlace}
use Rattle.rates_model.specs.declared.error.RatesPlace.TheVariants.{AtCluster, AtNode, AtProcess, AtLink, AtMessage, AtChain}
use Rattle.rates_model.specs.declared.error.RatesError.{RatesError}
use Rattle.rates_model.specs.declared.error.RatesError.TheVariants as rates
use Rattle.rates_model.specs.declared.parts.RatesProcess.{RatesProcess}
use Rattle.rates_model.specs.Rates.{Rates, chain_at, link_at, message_at, node_at, process_at}
use Rattle.rates_model.specs.Rules.{AreTicks}
use Rattle.rates_text.specs.declared.error.RatesKey.{RatesKey}
use Rattle.rates_text.specs.declared.error.RatesKey.TheVariants as key
use Rattle.rates_command.specs.declared.parts.RatesTimes.{RatesTimes}
use Rattle.rates_command.specs.declared.rules.RatesRuleReason.{RatesRuleReason}
use Rattle.rates_command.specs.declared.rules.RatesRuleReason.TheVariants as reason
use Rattle.rates_command.specs.Spots.{IsRatesSpot, name_at}

-- how many entries a list has
abbrev pub length_of : Rates → RatesPart → ℕ
length_of rho Nodes = length rho.nodes
length_of rho Processes = length rho.processes
length_of rho Links = length rho.links
length_of rho Messages = length rho.messages
length_of rho Chains = length rho.chains

-- this number stands at this key of a place, and of the cluster's two numbers it is one that isn't from 1 to 1,000,000
abbrev pub IsNumberAt : Rates → RatesPlace → RatesKey → ℕ → Type 0
IsNumberAt rho AtCluster key.Store n = (n ≡ rho.cluster.store) × ¬ AreTicks n
IsNumberAt rho AtCluster key.Round n = (rho.cluster.round ≡ Some n) × ¬ AreTicks n
IsNumberAt rho (AtNode i) key.Capacity n = n ≡ (node_at rho i).capacity
IsNumberAt rho (AtProcess p) key.Period n = n ≡ (process_at rho p).period
IsNumberAt rho (AtLink l) key.Delay n = n ≡ (link_at rho l).delay
IsNumberAt rho (AtMessage m) key.Delay n = n ≡ (message_at rho m).delay
IsNumberAt rho (AtChain c) key.Age n = n ≡ (chain_at rho c).age
IsNumberAt rho _ _ _ = ⊥

-- the process at a place of a chain
abbrev pub process_through : Rates → ℕ → ℕ → ℕ
process_through rho c place = slice_index (chain_at rho c).through place

-- these are the times of a process
pub record AreTimes (p : RatesProcess) (times : RatesTimes) : Type 0 where
  pub wcet : times.wcet ≡ p.wcet
  pub period : times.period ≡ p.period
  pub release : times.release ≡ p.release
  pub deadline : times.deadline ≡ p.deadline

-- a refusal's numbers and names, rule by rule, with how many ticks make one of the text
abbrev pub IsRatesRuleReason : Rates → RatesError → RatesRuleReason → Type 0
IsRatesRuleReason rho (rates.Length list) (reason.Count told entries) = (told ≡ list) × (entries ≡ length_of rho list)
IsRatesRuleReason rho (rates.NoReceiver m) (reason.NoReceiver spot) = IsRatesSpot rho (AtMessage m) spot
IsRatesRuleReason rho (rates.Through c) (reason.Through spot entries) = IsRatesSpot rho (AtChain c) spot × (entries ≡ length (chain_at rho c).through)
IsRatesRuleReason rho (rates.NameForm at) (reason.Malformed r) = IsRatesSpot rho at r.spot × IsNameFault (name_at rho at) r.fault
IsRatesRuleReason rho (rates.NameRepeated at) (reason.Repeated spot) = IsRatesSpot rho at spot
IsRatesRuleReason rho (rates.NoSuchIndex at) (reason.NoSuchIndex spot) = IsRatesSpot rho at spot
IsRatesRuleReason rho (rates.OutOfRange at) (reason.Outside spot key number finer) =
    IsRatesSpot rho at spot × IsNumberAt rho at key number × (finer ≡ rho.cluster.finer)
IsRatesRuleReason rho (rates.NoRoom p) (reason.NoRoom spot times finer) =
    IsRatesSpot rho (AtProcess p) spot × AreTimes (process_at rho p) times × (finer ≡ rho.cluster.finer)
IsRatesRuleReason rho (rates.NothingRead c k) (reason.Unread spot before process) =
    IsRatesSpot rho (AtChain c) spot × (before.now ≡ (process_at rho (process_through rho c (k - 1))).name)
    × (process.now ≡ (process_at rho (process_through rho c k)).name)
IsRatesRuleReason rho (rates.ShortRound slots round) (reason.ShortRound told asked) = (told ≡ slots) × (asked ≡ round)
IsRatesRuleReason rho rates.LongCycle (reason.LongCycle finer) = finer ≡ rho.cluster.finer
IsRatesRuleReason rho (rates.LongRound round cycle) (reason.LongRound told whole finer) = (told ≡ round) × (whole ≡ cycle) × (finer ≡ rho.cluster.finer)
IsRatesRuleReason rho _ _ = ⊥
