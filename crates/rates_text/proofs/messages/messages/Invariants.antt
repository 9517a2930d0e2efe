use Rattle.std.proofs.Common.{◌≡◌, Ok, take}
use Rattle.rates_text.specs.Index.{index_by}
use Rattle.rates_text.specs.Stated.{messages_of}
use Rattle.rates_text.specs.Views.{table_views}
use Rattle.rates_text.proofs.messages.messages.Given as goal

abbrev pub invariant-loop-index : goal.invariant-loop-index
invariant-loop-index l = messages_of (index_by l.processes) (table_views (take l.index l.tables)) ≡ Ok l.messages.items
