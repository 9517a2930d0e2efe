-- An answer to how old what a chain carries has to be has what its texts ask for, and what was found is told once it is written.
use Rattle.std.proofs.Common.{◌≡◌, ℕ, ◌-◌, ◌<◌, List, length, Bool, true, false, Option, None, Some, Result, Ok, Err, IfOk, IfSome, MatchResult, arith, inl, inr, refl, sym, subst}
use Rattle.std.specs.Io.KnownBytes.{Keeps}
use Rattle.std.specs.Global.{Vec}
use Rattle.ttp_model.specs.declared.error.MemoryFault.{MemoryFault}
use Rattle.ttp_model.specs.Instance.{Instance}
use Rattle.rates_model.specs.Rates.{Rates}
use Rattle.endless_schedules.specs.Unrolled.{unrolled}
use Rattle.endless_schedules.specs.Aging.{aged}
use Rattle.plan_questions.specs.outcome.Options.{Options}
use Rattle.plan_questions.specs.declared.ages.answer.LeastAge.{LeastAge}
use Rattle.plan_questions.specs.declared.ages.answer.LeastAge.TheVariants.{Least, Window, Between, Unknown, Never}
use Rattle.plan_questions.specs.LeastAges.{IsAnswer}
use Rattle.plan_questions.proofs.AgeCuts.{age_allows}
use Rattle.command_streams.specs.declared.ending.Fault.TheVariants as fault
use Rattle.command_streams.specs.declared.ending.End.{End}
use Rattle.command_streams.specs.declared.ending.End.TheVariants as end
use Rattle.command_streams.specs.Writing.{IsTextOf, IsWritingOf}
use Rattle.question_commands.specs.declared.limit_texts.Beside.{Beside}
use Rattle.question_commands.specs.Limited.{HasValidPlan}
use Rattle.rates_command.specs.declared.ending.RatesFault.{RatesFault}
use Rattle.rates_command.specs.declared.ending.RatesFault.TheVariants.{Unrolled}
use Rattle.rates_command.specs.declared.ending.RatesEnd.TheVariants as rates
use Rattle.rates_command.specs.Answers.{AreRefusedFor, HasRates, IsOfBytes}
use Rattle.question_commands.specs.declared.ages.Aged.{Aged}
use Rattle.question_commands.specs.declared.age_ending.AgeEnd.{AgeEnd}
use Rattle.question_commands.specs.declared.age_ending.AgeEnd.TheVariants.{Searched, OfRates}
use Rattle.question_commands.specs.AgeChains.{HasName, loose}
use Rattle.question_commands.specs.AgeTexts.{HasJob, IsPrintable, IsTextWithLess, end_told, plan_of}
use Rattle.question_commands.specs.AgeAnswers.{IsAgeAnswer, IsAged, IsAgedBy, IsAgedOf, IsNoAgeOf, IsUnaged, IsUnloosened}

module _ (rho : Rates) (x : ℕ) (options : Options) where
  -- the instance that was searched has a text, and so has the certificate
  pub printable : (least : LeastAge) → IsAnswer rho x options least → IsPrintable rho x least
  printable (Least age plan cert) is = record {
    some = is.some;
    less = omega (arith, is.within);
    rules = is.lawful;
    allows = age_allows rho x options age plan cert is;
  }
  printable (Window age job plan) is = tt
  printable (Between low high plan) is = tt
  printable (Unknown low) is = tt
  printable Never is = tt

  module _ (base : Instance) (same : base ≡ unrolled rho) where
    -- the job of which it speaks is there
    pub job_there : (least : LeastAge) → IsAnswer rho x options least → HasJob base least
    job_there (Least age plan cert) is = tt
    job_there (Window age job plan) is = subst (λ (it : Instance). job < length it.processes) (sym same) is.full.within
    job_there (Between low high plan) is = tt
    job_there (Unknown low) is = tt
    job_there Never is = tt

    own_valid : (least : LeastAge) → IsAnswer rho x options least → HasValidPlan (unrolled rho) (plan_of least)
    own_valid (Least age plan cert) is = is.has.valid
    own_valid (Window age job plan) is = is.has.valid
    own_valid (Between low high plan) is = is.has.valid
    own_valid (Unknown low) is = tt
    own_valid Never is = tt

    -- its plan is valid
    pub plan_valid : (least : LeastAge) → IsAnswer rho x options least → HasValidPlan base (plan_of least)
    plan_valid least is = subst (λ (it : Instance). HasValidPlan it (plan_of least)) (sym same) (own_valid least is)

-- what is wanted is the text of the instance with one less
pub with_less : (wanted : Bool) (rho : Rates) (x age : ℕ) (less : Instance) (text : Result (Option (Vec ℕ)) MemoryFault) → wanted ≡ true
    → less ≡ aged rho x (age - 1) → IfOk text (IsTextOf less) → IfOk text (IsTextWithLess wanted rho x age)
with_less true rho x age less text asked same is = subst (λ (it : Instance). IfOk text (IsTextOf it)) same is
with_less false rho x age less text asked same is = absurd cc

-- a chain that may be as old as can be said has no answer, and so its name has none
unloosened : (rho : Rates) (name : List ℕ) (x : ℕ) → HasName rho name x → (told : AgeEnd) → IsUnloosened (loose rho x) told → IsNoAgeOf rho name told
unloosened rho name x named (Searched (end.Refused fault.Memory)) is = tt
unloosened rho name x named (Searched (end.Refused (fault.Search why))) is = record { chain = x; named = named }
unloosened rho name x named (OfRates (rates.Refused (Unrolled fault))) is = record { chain = x; named = named; refused = is }
unloosened rho name x named told is = absurd is

-- an answer to the chain of a name, or none
pub aged_by_name : (rho other : Rates) (name : List ℕ) (x : ℕ) (beside : Beside) (options : Options) → HasName rho name x → other ≡ loose rho x
    → (answer : Result Aged AgeEnd) → MatchResult answer (IsAgedBy other x beside options) (IsUnloosened other)
    → MatchResult answer (IsAgedOf rho name beside options) (IsNoAgeOf rho name)
aged_by_name rho other name x beside options named same (Ok aged) is = record {
  chain = x;
  named = named;
  is = subst (λ (it : Rates). IsAgedBy it x beside options aged) same is;
}
aged_by_name rho other name x beside options named same (Err told) is = unloosened rho name x named told (subst (λ (it : Rates). IsUnloosened it told) same is)

-- an answer to the cluster that a reader's bytes state, or none
pub aged_of_bytes : (known : Option (List ℕ)) (name : List ℕ) (beside : Beside) (options : Options) (rho : Rates) (answer : Result Aged AgeEnd)
    → IfSome known (λ bytes. HasRates bytes rho) → MatchResult answer (IsAgedOf rho name beside options) (IsNoAgeOf rho name)
    → IfSome known (λ bytes. MatchResult answer (IsAged bytes name beside options) (IsUnaged bytes name))
aged_of_bytes None name beside options rho answer has is = tt
aged_of_bytes (Some bytes) name beside options rho (Ok aged) has is = record { cluster = rho; has = has; is = is }
aged_of_bytes (Some bytes) name beside options rho (Err told) has is = inl (record { cluster = rho; has = has; refused = is })

-- none to bytes that state no cluster
pub unread_bytes : (known : Option (List ℕ)) (name : List ℕ) (why : RatesFault) → IfSome known (λ bytes. AreRefusedFor bytes why)
    → IsOfBytes why → IfSome known (λ bytes. IsUnaged bytes name (OfRates (rates.Refused why)))
unread_bytes None name why is alone = tt
unread_bytes (Some bytes) name why is alone = inr (why, is, alone, refl)

-- what was found of a reader's bytes is the answer, once it is written
pub told_age : (known : Option (List ℕ)) (name : List ℕ) (beside : Beside) (options : Options) (aged : Aged)
    (from to before after old new : Option (List ℕ)) (at : End) → IfSome known (λ bytes. IsAged bytes name beside options aged)
    → IsWritingOf aged.texts (end_told aged.least) from to before after old new at
    → IfSome known (λ bytes. IsAgeAnswer bytes name beside options from to before after old new (Searched at))
told_age None name beside options aged from to before after old new at is writing = tt
told_age (Some bytes) name beside options aged from to before after old new at is writing =
    inl (record { aged = aged; is = is; telling = writing })

kept : (known : Option (List ℕ)) → Keeps known known
kept None = tt
kept (Some bytes) = refl

-- where there is none, that is told, and nothing is written
pub untold_age : (known : Option (List ℕ)) (name : List ℕ) (beside : Beside) (options : Options) (from before old : Option (List ℕ)) (told : AgeEnd)
    → IfSome known (λ bytes. IsUnaged bytes name told)
    → IfSome known (λ bytes. IsAgeAnswer bytes name beside options from from before before old old told)
untold_age None name beside options from before old told lacking = tt
untold_age (Some bytes) name beside options from before old told lacking =
    inr (record { lacking = lacking; certificate = kept from; reduced = kept before; answer = kept old })
