use Rattle.std.proofs.Common.{◌≡◌, length}
use Rattle.std.specs.List.{list_all}
use Rattle.plan_format.specs.Names.{is_name}
use Rattle.plan_format.specs.Reading.{words_of}
use Rattle.plan_format.proofs.order.are_names.Given as goal

abbrev pub invariant-words : goal.invariant-words
invariant-words l = list_all is_name (words_of l.rest) ≡ list_all is_name (words_of l.text)

abbrev pub decreases-words : goal.decreases-words
decreases-words l = length l.rest
