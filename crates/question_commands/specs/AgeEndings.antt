-- The exit status of each end, and the line that the program writes on standard error.
use Rattle.std.specs.Prelude.{ℕ, List, ◌∷◌, [], ◌++◌, codes}
use Rattle.command_streams.specs.Endings.{status_of}
use Rattle.command_streams.specs.Lines.{report_of}
use Rattle.rates_command.specs.Endings.{rates_status_of}
use Rattle.rates_command.specs.Lines.{rates_report}
use Rattle.question_commands.specs.declared.age_ending.AgeEnd.{AgeEnd}
use Rattle.question_commands.specs.declared.age_ending.AgeEnd.TheVariants.{Searched, NoSuchChain, OfRates}

abbrev pub age_status_of : AgeEnd → ℕ
age_status_of (Searched end) = status_of end
age_status_of NoSuchChain = 5
age_status_of (OfRates end) = rates_status_of end

abbrev pub age_report : AgeEnd → List ℕ
age_report (Searched end) = report_of end
age_report NoSuchChain = codes "age name" ++ 10 ∷ []
age_report (OfRates end) = rates_report end
