-- What stands above all sentences.
use Rattle.std.specs.Prelude.{ℕ, List, [], ◌∷◌, ◌++◌}
use Rattle.command_streams.specs.declared.ending.Fault.{Fault}
use Rattle.command_streams.specs.Lines.{fault_line}

-- the line of a fault
unfoldable pub line_of : Fault → List ℕ
line_of fault = fault_line fault ++ 10 ∷ []
