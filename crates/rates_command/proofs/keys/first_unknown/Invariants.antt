use Rattle.std.proofs.Common.{◌≡◌}
use Rattle.toml.specs.View.{table_view}
use Rattle.instance_reasons.specs.Unknown.{first_unknown}
use Rattle.instance_reasons.proofs.Filling.{first_among}
use Rattle.rates_text.specs.Tables.{has_key}
use Rattle.rates_command.proofs.keys.first_unknown.Given as goal

abbrev pub invariant-loop-text : goal.invariant-loop-text
invariant-loop-text l = first_unknown (has_key l.keys) (table_view l.table) ≡ first_among (has_key l.keys) l.text-iterator
