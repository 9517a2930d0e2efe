-- How a join ends, and what is written on standard error then.
use Rattle.std.specs.Prelude.{ℕ, List, [], ◌∷◌, ◌++◌, codes, decimal}
use Rattle.command_streams.specs.declared.ending.Fault.{Fault}
use Rattle.command_streams.specs.Endings.{fault_status, status_of}
use Rattle.command_streams.specs.Lines.{fault_line, report_of}
use Rattle.plan_commands.specs.declared.join.ending.JoinEnd.{JoinEnd}
use Rattle.plan_commands.specs.declared.join.ending.JoinEnd.TheVariants.{Ended, RefusedAt}

-- the program's exit status
abbrev pub status_of_join : JoinEnd → ℕ
status_of_join (Ended end) = status_of end
status_of_join (RefusedAt certificate fault) = fault_status fault

-- the words for a certificate's number, with a space behind them
abbrev pub join_word : ℕ → List ℕ
join_word certificate = codes "join " ++ (decimal certificate ++ 32 ∷ [])

-- the line of a fault of the certificate of this number, with its end
abbrev pub join_line : ℕ → Fault → List ℕ
join_line certificate fault = join_word certificate ++ (fault_line fault ++ 10 ∷ [])

-- what is written on standard error at each end
abbrev pub join_report : JoinEnd → List ℕ
join_report (Ended end) = report_of end
join_report (RefusedAt certificate fault) = join_line certificate fault
