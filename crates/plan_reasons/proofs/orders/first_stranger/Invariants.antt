use Rattle.std.proofs.Common.{◌≡◌, length}
use Rattle.std.specs.Prelude.{find}
use Rattle.plan_format.specs.Reading.{words_of}
use Rattle.plan_reasons.specs.Orders.{is_stranger}
use Rattle.plan_reasons.proofs.orders.first_stranger.Given as goal

abbrev pub invariant-words : goal.invariant-words
invariant-words l = find (is_stranger l.instance) (words_of l.rest) ≡ find (is_stranger l.instance) (words_of l.text)

abbrev pub decreases-words : goal.decreases-words
decreases-words l = length l.rest
