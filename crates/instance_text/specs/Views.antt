-- What the code's tables stand for.
use Rattle.std.specs.Prelude.{List, map, String}
use Rattle.std.specs.Borrow.{Bor}
use Rattle.std.specs.BTreeMap.{BTreeMap}
use Rattle.std.specs.declared.alloc.Global.{Global}
use Rattle.toml.specs.Data.{Members}
use Rattle.toml.specs.View.{table_view}
use Rattle.toml.specs.declared.value.Value.{Value}
use Rattle.instance_text.specs.declared.top.Tables.{Tables as CodeTables}
use Rattle.instance_text.specs.Stated.{Tables}

-- what these tables hold
abbrev pub table_views : List (Bor (BTreeMap (String Global) Value)) → List Members
table_views = map (λ table. table_view table.now)

-- the tables of a text
abbrev pub tables_view : CodeTables → Tables
tables_view tables = record {
  cluster = table_view tables.cluster.now;
  nodes = table_views tables.nodes.items;
  processes = table_views tables.processes.items;
  links = table_views tables.links.items;
  messages = table_views tables.messages.items;
}
