use Rattle.std.proofs.Common.{◌≡◌, Ok, take}
use Rattle.instance_text.specs.Index.{index_by}
use Rattle.instance_text.specs.Stated.{links_of}
use Rattle.instance_text.specs.Views.{table_views}
use Rattle.instance_text.proofs.links.links.Given as goal

abbrev pub invariant-loop-index : goal.invariant-loop-index
invariant-loop-index l = links_of (index_by l.processes) (table_views (take l.index l.tables)) ≡ Ok l.links.items
