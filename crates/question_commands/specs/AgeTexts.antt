-- Which texts tell the least age of a chain.
use Rattle.std.specs.Prelude.{◌≡◌, ℕ, ◌-◌, ◌<◌, ◌≤◌, List, [], ◌∷◌, ◌++◌, length, codes, decimal, Bool, true, false, Option, None, Some}
use Rattle.std.specs.Global.{Vec}
use Rattle.ttp_model.specs.declared.plan.Plan.{Plan}
use Rattle.ttp_model.specs.Instance.{Instance}
use Rattle.ttp_model.specs.Names.{process_name}
use Rattle.ttp_model.specs.Rules.{IsInstance}
use Rattle.certificate.specs.Cert.{Cert}
use Rattle.certificate.specs.Versions.{Allows}
use Rattle.rates_model.specs.Rates.{Rates, chain_at}
use Rattle.endless_schedules.specs.Unrolled.{unrolled}
use Rattle.plan_questions.specs.declared.ages.answer.LeastAge.{LeastAge}
use Rattle.plan_questions.specs.declared.ages.answer.LeastAge.TheVariants.{Least, Window, Between, Unknown, Never}
use Rattle.endless_schedules.specs.Aging.{aged}
use Rattle.command_streams.specs.declared.ending.End.{End}
use Rattle.command_streams.specs.declared.ending.End.TheVariants.{Done, Absent, Stopped}
use Rattle.command_streams.specs.declared.texts.Texts.{Texts}
use Rattle.command_streams.specs.Writing.{IsNothing, IsTextOf}
use Rattle.question_commands.specs.declared.limit_texts.Beside.{Beside}
use Rattle.question_commands.specs.Answers.{IsCertificateText}
use Rattle.question_commands.specs.Limited.{IsTextBehind}

-- the plan of an answer, where it has one
abbrev pub plan_of : LeastAge → Option Plan
plan_of (Least age plan cert) = Some plan
plan_of (Window age job plan) = Some plan
plan_of (Between low high plan) = Some plan
plan_of (Unknown low) = None
plan_of Never = None

-- the job of which an answer speaks is there
abbrev pub HasJob : Instance → LeastAge → Type 0
HasJob i (Window age job plan) = job < length i.processes
HasJob i _ = Unit {0}

-- its name, where an answer speaks of one
abbrev pub name_of : Instance → LeastAge → List ℕ
name_of i (Least age plan cert) = []
name_of i (Window age job plan) = process_name i job
name_of i (Between low high plan) = []
name_of i (Unknown low) = []
name_of i Never = []

-- what an answer says in words, with that name
abbrev pub first_line : LeastAge → List ℕ → List ℕ
first_line (Least age plan cert) name = codes "age " ++ decimal age
first_line (Window age job plan) name = codes "age " ++ (decimal age ++ (codes " window " ++ name))
first_line (Between low high plan) name = codes "between " ++ (decimal low ++ (codes " " ++ decimal high))
first_line (Unknown low) name = codes "between " ++ (decimal low ++ codes " none")
first_line Never name = codes "none"

-- the line of that
abbrev pub line_of : Instance → LeastAge → List ℕ
line_of i least = first_line least (name_of i least) ++ 10 ∷ []

-- what is written of an answer
abbrev pub IsAgeText : Instance → LeastAge → List ℕ → Type 0
IsAgeText i least text = IsTextBehind i (line_of i least) (plan_of least) text

-- the end at which it is told: a search that was stopped leaves less known than was asked
abbrev pub end_told : LeastAge → End
end_told (Least age plan cert) = Done
end_told (Window age job plan) = Done
end_told (Between low high plan) = Stopped
end_told (Unknown low) = Stopped
end_told Never = Absent

-- of an answer that a search showed, the instance that it searched keeps all rules, and its certificate has a text
pub record IsSearched (rho : Rates) (x age : ℕ) (cert : Cert) : Type 0 where
  pub some : 1 ≤ age
  pub less : age - 1 ≤ (chain_at rho x).age
  pub rules : IsInstance (aged rho x (age - 1))
  pub allows : Allows cert.version cert.tree

abbrev pub IsPrintable : Rates → ℕ → LeastAge → Type 0
IsPrintable rho x (Least age plan cert) = IsSearched rho x age cert
IsPrintable rho x _ = Unit {0}

-- what is written to the certificate's file: the certificate that there is no plan with one less, where a search showed that
abbrev pub IsTextBeside : Bool → LeastAge → List ℕ → Type 0
IsTextBeside wanted (Least age plan cert) text = IsCertificateText wanted cert text
IsTextBeside wanted (Window age job plan) text = text ≡ []
IsTextBeside wanted (Between low high plan) text = text ≡ []
IsTextBeside wanted (Unknown low) text = text ≡ []
IsTextBeside wanted Never text = text ≡ []

-- a text that states the instance with one less, where it is wanted and the one that was made reads back as it
abbrev pub IsTextWithLess : Bool → Rates → ℕ → ℕ → Option (Vec ℕ) → Type 0
IsTextWithLess true rho x age text = IsTextOf (aged rho x (age - 1)) text
IsTextWithLess false rho x age text = IsNothing text

-- what is written to the other file: that text, where a search showed that there is no plan with one less
abbrev pub IsAgedText : Bool → Rates → ℕ → LeastAge → Option (Vec ℕ) → Type 0
IsAgedText wanted rho x (Least age plan cert) text = IsTextWithLess wanted rho x age text
IsAgedText wanted rho x (Window age job plan) text = IsNothing text
IsAgedText wanted rho x (Between low high plan) text = IsNothing text
IsAgedText wanted rho x (Unknown low) text = IsNothing text
IsAgedText wanted rho x Never text = IsNothing text

-- the texts that tell an answer to how old what chain x of a cluster has to be
pub record AreTextsOf (beside : Beside) (rho : Rates) (x : ℕ) (least : LeastAge) (texts : Texts) : Type 0 where
  pub certificate : IsTextBeside beside.certificate least texts.certificate.items
  pub reduced : IsAgedText beside.reduced rho x least texts.reduced
  pub answer : IsAgeText (unrolled rho) least texts.answer.items
