-- What a row of the command line takes.
use Rattle.std.specs.Prelude.{ℕ, ◌≤◌}
use Rattle.command_line.specs.declared.rows.Takes.{Takes}
use Rattle.command_line.specs.declared.rows.Takes.TheVariants.{Number}

-- a row takes this number
abbrev pub IsIn : Takes → ℕ → Type 0
IsIn (Number range) n = (range.least ≤ n) × (n ≤ range.most)
IsIn _ n = ⊥
