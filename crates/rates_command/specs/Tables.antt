-- What of a text of several rates stands at a place, and at a key of it: as of an instance, and beside that chains. Own profile.
use Rattle.std.specs.Prelude.{ℕ, List, Option}
use Rattle.toml.specs.Data.{Data, Members, as_table, at, get_member}
use Rattle.instance_reasons.specs.Tables as tables
use Rattle.instance_reasons.specs.Tables.{and_then, name_of_found}
use Rattle.rates_text.specs.declared.error.RatesKey.{RatesKey}
use Rattle.rates_text.specs.declared.error.RatesKey.TheVariants as key
use Rattle.rates_text.specs.declared.error.RatesTable.{RatesTable}
use Rattle.rates_text.specs.declared.error.RatesTable.TheVariants.{Of, Chain}
use Rattle.rates_text.specs.Keys.{text_of}

-- the value at a key of a table
abbrev pub value_in : RatesKey → Members → Option Data
value_in k ms = get_member (text_of k) ms

-- the table at a place
abbrev pub table_at : RatesTable → Members → Option Members
table_at (Of place) ms = tables.table_at place ms
table_at (Chain c) ms = and_then (and_then (value_in key.Chain ms) (at c)) as_table

-- the value at a key there
abbrev pub value_at : RatesTable → RatesKey → Members → Option Data
value_at place k ms = and_then (table_at place ms) (value_in k)

-- the name there, or an empty one
abbrev pub name_at : RatesTable → Members → List ℕ
name_at place ms = name_of_found (table_at place ms)
