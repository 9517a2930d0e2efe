use Rattle.side_by_side.proofs.LeafParts.{same_parts, leaf_parts}
use Rattle.side_by_side.proofs.laws.there_are_parts.Goals as goal

pub returns : goal.returns
returns c = record { same = same_parts; leaf = leaf_parts }
