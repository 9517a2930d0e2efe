use Rattle.std.proofs.Common.{◌≡◌, ◌++◌, drop}
use Rattle.plan_format.specs.Names.{part_of}
use Rattle.ttp_model.specs.Names.{names_in}
use Rattle.plan_format.specs.Spelling.{numbered}
use Rattle.plan_format.proofs.printing.push_lines.Given as goal

abbrev pub invariant-loop-k : goal.invariant-loop-k
invariant-loop-k l =
    l.text.items ++ numbered l.column (drop l.k (names_in l.instance (part_of l.column))) (drop l.k l.numbers)
    ≡ l.initial.text.items ++ numbered l.column (names_in l.instance (part_of l.column)) l.numbers
