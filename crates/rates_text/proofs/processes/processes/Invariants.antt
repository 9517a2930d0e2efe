use Rattle.std.proofs.Common.{◌≡◌, Ok, take}
use Rattle.rates_text.specs.Index.{index_by}
use Rattle.rates_text.specs.Stated.{processes_of}
use Rattle.rates_text.specs.Views.{table_views}
use Rattle.rates_text.proofs.processes.processes.Given as goal

abbrev pub invariant-loop-index : goal.invariant-loop-index
invariant-loop-index l = processes_of (index_by l.nodes) (table_views (take l.index l.tables)) ≡ Ok l.processes.items
