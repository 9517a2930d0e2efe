use Rattle.std.proofs.Common.{◌≡◌, length}
use Rattle.ttp_model.specs.declared.error.Part.TheVariants.{Nodes}
use Rattle.ttp_model.specs.Names.{names_in}
use Rattle.plan_format.specs.Reading.{places, words_of}
use Rattle.plan_format.proofs.WordLoop.{before}
use Rattle.plan_format.proofs.order.places_of.Given as goal

abbrev pub invariant-words : goal.invariant-words
invariant-words l = before l.order.items (places (names_in l.instance Nodes) (words_of l.rest)) ≡ places (names_in l.instance Nodes) (words_of l.text)

abbrev pub decreases-words : goal.decreases-words
decreases-words l = length l.rest
