-- What is told of the bytes of a cluster of several rates.
use Rattle.std.specs.Prelude.{◌≡◌, ◌⊎◌, ℕ, ◌*◌, ◌<◌, ◌∷◌, [], ◌++◌, List, length}
use Rattle.instance_reasons.specs.declared.rules.RuleReason.{RuleReason}
use Rattle.instance_reasons.specs.Rules.{IsRuleReason}
use Rattle.sentences.specs.Shown.{Gains, IsShown}
use Rattle.rates_model.specs.Cycles.{cycle, round_of, rounds_in}
use Rattle.rates_model.specs.Rates.{Rates}
use Rattle.rates_text.specs.declared.error.RatesTextError.{RatesTextError}
use Rattle.rates_text.specs.Faults.{IsFirstRatesFault}
use Rattle.endless_schedules.specs.declared.unrolling.UnrollFault.{UnrollFault}
use Rattle.endless_schedules.specs.declared.unrolling.UnrollFault.TheVariants as unrolled
use Rattle.endless_schedules.specs.Refusals.{IsUnrollFault}
use Rattle.endless_schedules.specs.Unrolled.{unrolled}
use Rattle.rates_command.specs.declared.reason.RatesReason.{RatesReason}
use Rattle.rates_command.specs.Reasons.{IsRatesReason}
use Rattle.rates_command.specs.declared.limits.TheConstants.{RATES_LIMIT}
use Rattle.rates_command.specs.declared.ending.RatesFault.{RatesFault}
use Rattle.rates_command.specs.declared.ending.RatesFault.TheVariants.{Memory, Text, TooLong, Unread, Unrolled}
use Rattle.rates_command.specs.Answers.{HasRates}
use Rattle.rates_command.specs.Lines.{rates_line}
use Rattle.rates_command.specs.declared.sizes.RatesSizes.{RatesSizes}

-- the line of a fault, with its end
unfoldable pub line_of : RatesFault → List ℕ
line_of fault = rates_line fault ++ 10 ∷ []

-- that line, and words behind it that do nothing to a terminal
abbrev pub TellsBehind : RatesFault → List ℕ → Type 0
TellsBehind fault text = Gains IsShown (line_of fault) text

-- bytes that state no cluster: their first fault, and its reason
pub record TellsText (bytes text : List ℕ) : Type 0 where
  pub wrong : RatesTextError
  pub first : IsFirstRatesFault bytes wrong
  pub reason : RatesReason
  pub is : IsRatesReason bytes wrong reason
  pub told : TellsBehind (Text wrong) text

-- the reason of a refusal of the instance of a cycle: of a list that is too long the list alone
abbrev pub IsUnrollReason : Rates → UnrollFault → Type 0
IsUnrollReason rho (unrolled.TooMany part) = Unit {0}
IsUnrollReason rho (unrolled.Refused refused) = (r : RuleReason) × IsRuleReason (unrolled rho) refused.error r
IsUnrollReason rho unrolled.OutOfMemory = ⊥

-- the reason of a fault that is one
abbrev pub IsReasonOf : Rates → RatesFault → Type 0
IsReasonOf rho (Unrolled wrong) = IsUnrollReason rho wrong
IsReasonOf rho _ = ⊥

-- a cluster whose cycle has no instance: why, and the reason of that
pub record TellsUnrolled (rho : Rates) (text : List ℕ) : Type 0 where
  pub wrong : UnrollFault
  pub first : IsUnrollFault rho wrong
  pub is : IsUnrollReason rho wrong
  pub told : TellsBehind (Unrolled wrong) text

-- how large a cluster is, and the instance of its cycle; all but the counts in ticks
pub record AreSizes (rho : Rates) (r : RatesSizes) : Type 0 where
  pub nodes_are : r.nodes ≡ length rho.nodes
  pub processes_are : r.processes ≡ length rho.processes
  pub links_are : r.links ≡ length rho.links
  pub messages_are : r.messages ≡ length rho.messages
  pub chains_are : r.chains ≡ length rho.chains
  pub finer_is : r.finer ≡ rho.cluster.finer
  pub cycle_is : r.cycle ≡ cycle rho
  pub round_is : r.round ≡ round_of rho
  pub horizon_is : r.horizon ≡ rounds_in rho * round_of rho
  pub jobs_are : r.unrolled_processes ≡ length (unrolled rho).processes
  pub reads_are : r.unrolled_links ≡ length (unrolled rho).links
  pub sent_are : r.unrolled_messages ≡ length (unrolled rho).messages

-- a cluster with an instance
pub record TellsSizes (rho : Rates) (text : List ℕ) : Type 0 where
  pub sizes : RatesSizes
  pub are : AreSizes rho sizes
  pub shown : IsShown text

-- a cluster
abbrev pub TellsRates : Rates → List ℕ → Type 0
TellsRates rho text = TellsUnrolled rho text ⊎ TellsSizes rho text

-- bytes that state one
pub record TellsStated (bytes text : List ℕ) : Type 0 where
  pub rates : Rates
  pub has : HasRates bytes rates
  pub tells : TellsRates rates text

-- what is told of bytes
abbrev pub TellsBytes : List ℕ → List ℕ → Type 0
TellsBytes bytes text = TellsText bytes text ⊎ TellsStated bytes text

-- why nothing is
abbrev pub IsUntold : List ℕ → RatesFault → Type 0
IsUntold bytes Memory = Unit {0}
IsUntold bytes Unread = Unit {0}
IsUntold bytes TooLong = RATES_LIMIT < length bytes
IsUntold bytes _ = ⊥
