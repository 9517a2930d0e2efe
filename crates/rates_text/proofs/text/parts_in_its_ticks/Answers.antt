use Rattle.toml.specs.View.{table_view}
use Rattle.rates_text.specs.Views.{tables_view}
use Rattle.rates_text.proofs.StatedLaws.{stated-tables}
use Rattle.rates_text.proofs.text.parts_in_its_ticks.Goals as goal

pub returns-clause-ok : goal.returns-clause-ok
returns-clause-ok c =
    rw (stated-tables (table_view c.args.table.now) (tables_view c.in_ok-tables.tables) c.in_ok-tables.ensures.ok) c.parts_in-parts.ensures.ok

pub returns-clause-err : goal.returns-clause-err
returns-clause-err c =
    rw (stated-tables (table_view c.args.table.now) (tables_view c.in_ok-tables.tables) c.in_ok-tables.ensures.ok) c.parts_in-parts.ensures.err
