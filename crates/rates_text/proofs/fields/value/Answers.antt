use Rattle.toml.proofs.Views.{table_get}
use Rattle.rates_text.proofs.fields.value.Goals as goal

pub returns : goal.returns
returns c = rw (← c.text.ensures) (table_get c.get.result c.text.result.now c.args.table.now.entries c.get.ensures.value)
