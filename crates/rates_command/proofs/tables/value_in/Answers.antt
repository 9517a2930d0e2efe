use Rattle.toml.proofs.Views.{table_get}
use Rattle.rates_command.proofs.tables.value_in.Goals as goal

pub returns : goal.returns
returns c = rw (← c.text.ensures) (table_get c.get.result c.text.result.now c.args.table.now.entries c.get.ensures.value)
