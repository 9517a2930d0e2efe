use Rattle.std.proofs.Common.{◌≡◌, Ok, take}
use Rattle.rates_text.specs.Stated.{nodes_of}
use Rattle.rates_text.specs.Views.{table_views}
use Rattle.rates_text.proofs.nodes.nodes.Given as goal

abbrev pub invariant-loop-index : goal.invariant-loop-index
invariant-loop-index l = nodes_of (table_views (take l.index l.tables)) ≡ Ok l.nodes.items
