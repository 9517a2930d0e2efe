use Rattle.used_decisions.proofs.Places.{order_is, places_are_kept}
use Rattle.used_decisions.proofs.laws.told_places_are_kept.Goals as goal

pub returns : goal.returns
returns c = record { order = order_is; places = places_are_kept }
