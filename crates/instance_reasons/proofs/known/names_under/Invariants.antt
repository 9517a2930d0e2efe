use Rattle.std.proofs.Common.{◌≡◌, map, take}
use Rattle.toml.specs.View.{view}
use Rattle.instance_reasons.specs.Tables.{name_in}
use Rattle.instance_reasons.proofs.known.names_under.Given as goal

abbrev pub invariant-loop-entry : goal.invariant-loop-entry
invariant-loop-entry l = map (λ s. s.now) l.names.items ≡ map (λ v. name_in (view v)) (take l.entry-index l.entries)
