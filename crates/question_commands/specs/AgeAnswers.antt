-- What the bytes of a cluster of several rates and the name of a chain are answered by searches, and what `age` writes of the answer.
use Rattle.std.specs.Prelude.{◌≡◌, ◌⊎◌, ℕ, List, Option}
use Rattle.std.specs.Io.KnownBytes.{Keeps}
use Rattle.rates_model.specs.Rates.{Rates}
use Rattle.endless_schedules.specs.declared.unrolling.UnrollFault.{UnrollFault}
use Rattle.endless_schedules.specs.Refusals.{IsUnrollFault}
use Rattle.plan_questions.specs.outcome.Options.{Options}
use Rattle.plan_questions.specs.LeastAges.{IsAnswer}
use Rattle.command_streams.specs.declared.ending.Fault.TheVariants as fault
use Rattle.command_streams.specs.declared.ending.End.TheVariants as end
use Rattle.command_streams.specs.Writing.{IsWritingOf}
use Rattle.question_commands.specs.declared.limit_texts.Beside.{Beside}
use Rattle.rates_command.specs.declared.ending.RatesFault.{RatesFault}
use Rattle.rates_command.specs.declared.ending.RatesFault.TheVariants.{Unrolled}
use Rattle.rates_command.specs.declared.ending.RatesEnd.TheVariants as rates
use Rattle.rates_command.specs.Answers.{AreRefusedFor, HasRates, IsOfBytes}
use Rattle.question_commands.specs.declared.ages.Aged.{Aged}
use Rattle.question_commands.specs.declared.age_ending.AgeEnd.{AgeEnd}
use Rattle.question_commands.specs.declared.age_ending.AgeEnd.TheVariants.{Searched, NoSuchChain, OfRates}
use Rattle.question_commands.specs.AgeChains.{HasName, NamesNone, loose}
use Rattle.question_commands.specs.AgeTexts.{AreTextsOf, end_told}

-- an answer to how old what chain x carries has to be, with its texts
pub record IsAgedBy (rho : Rates) (x : ℕ) (beside : Beside) (options : Options) (aged : Aged) : Type 0 where
  pub is : IsAnswer rho x options aged.least
  pub texts : AreTextsOf beside rho x aged.least aged.texts

-- the name is that of a chain, and this is an answer to how old what it carries has to be, however old it may be
pub record IsAgedOf (rho : Rates) (name : List ℕ) (beside : Beside) (options : Options) (aged : Aged) : Type 0 where
  pub chain : ℕ
  pub named : HasName rho name chain
  pub is : IsAgedBy (loose rho chain) chain beside options aged

-- the name is that of a chain, and the instance of one cycle is refused where that may be as old as can be said
pub record IsTooNarrow (rho : Rates) (name : List ℕ) (fault : UnrollFault) : Type 0 where
  pub chain : ℕ
  pub named : HasName rho name chain
  pub refused : IsUnrollFault (loose rho chain) fault

-- the name is that of a chain
pub record NamesSome (rho : Rates) (name : List ℕ) : Type 0 where
  pub chain : ℕ
  pub named : HasName rho name chain

-- why there is no answer to a chain of which this is known: there was no memory, or no thread for a search
abbrev pub IsUnsearched : AgeEnd → Type 0
IsUnsearched (Searched (end.Refused fault.Memory)) = Unit {0}
IsUnsearched (Searched (end.Refused (fault.Search why))) = Unit {0}
IsUnsearched _ = ⊥

-- or the instance of one cycle is refused
abbrev pub IsUnloosened : Rates → AgeEnd → Type 0
IsUnloosened rho (OfRates (rates.Refused (Unrolled fault))) = IsUnrollFault rho fault
IsUnloosened rho told = IsUnsearched told

-- why there is none to a name: no chain has it, the instance is refused, or there was no memory or no thread
abbrev pub IsNoAgeOf : Rates → List ℕ → AgeEnd → Type 0
IsNoAgeOf rho name (Searched (end.Refused fault.Memory)) = Unit {0}
IsNoAgeOf rho name (Searched (end.Refused (fault.Search why))) = NamesSome rho name
IsNoAgeOf rho name NoSuchChain = NamesNone rho name
IsNoAgeOf rho name (OfRates (rates.Refused (Unrolled fault))) = IsTooNarrow rho name fault
IsNoAgeOf rho name _ = ⊥

-- the bytes state a cluster, and this is an answer to it and the name
pub record IsAged (bytes name : List ℕ) (beside : Beside) (options : Options) (aged : Aged) : Type 0 where
  pub cluster : Rates
  pub has : HasRates bytes cluster
  pub is : IsAgedOf cluster name beside options aged

-- the bytes state a cluster, and there is no answer to it and the name
pub record IsUnanswered (bytes name : List ℕ) (told : AgeEnd) : Type 0 where
  pub cluster : Rates
  pub has : HasRates bytes cluster
  pub refused : IsNoAgeOf cluster name told

-- why bytes and a name have no answer: there is none to the cluster that the bytes state, or they state none
abbrev pub IsUnaged : List ℕ → List ℕ → AgeEnd → Type 0
IsUnaged bytes name told =
    IsUnanswered bytes name told ⊎ ((why : RatesFault) × AreRefusedFor bytes why × IsOfBytes why × (told ≡ OfRates (rates.Refused why)))

-- an answer is written, and told at this end
abbrev pub IsTellingOf : Aged → (from to before after old new : Option (List ℕ)) → AgeEnd → Type 0
IsTellingOf aged from to before after old new (Searched at) = IsWritingOf aged.texts (end_told aged.least) from to before after old new at
IsTellingOf aged from to before after old new _ = ⊥

-- an answer is told
pub record IsToldAge (bytes name : List ℕ) (beside : Beside) (options : Options) (from to before after old new : Option (List ℕ)) (told : AgeEnd) : Type 0 where
  pub aged : Aged
  pub is : IsAged bytes name beside options aged
  pub telling : IsTellingOf aged from to before after old new told

-- nothing is told, for this, and nothing is written
pub record IsUntoldAge (bytes name : List ℕ) (from to before after old new : Option (List ℕ)) (told : AgeEnd) : Type 0 where
  pub lacking : IsUnaged bytes name told
  pub certificate : Keeps from to
  pub reduced : Keeps before after
  pub answer : Keeps old new

-- what `age` answers of the bytes of a cluster and the name of a chain, and what it writes
abbrev pub IsAgeAnswer : List ℕ → List ℕ → Beside → Options → (from to before after old new : Option (List ℕ)) → AgeEnd → Type 0
IsAgeAnswer bytes name beside options from to before after old new told =
    IsToldAge bytes name beside options from to before after old new told ⊎ IsUntoldAge bytes name from to before after old new told
