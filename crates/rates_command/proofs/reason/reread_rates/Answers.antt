use Rattle.toml.specs.View.{table_view}
use Rattle.rates_command.proofs.Again.{of_parts, of_table}
use Rattle.rates_command.proofs.reason.reread_rates.Goals as goal

pub returns-in-Ok-stated_parts : goal.returns-in-Ok-stated_parts
returns-in-Ok-stated_parts c =
    rw c.in-Refused.is
    (of_parts c.args.bytes.now c.in-Refused.field-0 c.in-Ok-stated_parts.parts (table_view c.in-Ok.table) (rw c.in-Refused.is at c.requires.first)
    c.in-Ok.ensures.ok c.in-Ok-stated_parts.ensures.ok)

pub returns : goal.returns
returns c = of_table c.args.bytes.now c.args.fault c.in-Ok.table c.requires.first c.requires.other c.in_default.not-Refused c.in-Ok.ensures.ok
