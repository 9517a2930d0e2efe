use Rattle.std.proofs.Common.{◌≡◌, [], ◌∷◌, ◌++◌, List, None, ap, refl, ◌∙◌}
use Rattle.side_by_side.specs.declared.frame.Frame.{Frame}
use Rattle.side_by_side.proofs.Stages.{joining_first}
use Rattle.side_by_side.proofs.OnePlace.{joining_alike}
use Rattle.side_by_side.proofs.joining.Joining.new.Goals as goal

pub returns-clause-joining : goal.returns-clause-joining
returns-clause-joining c =
    let i = c.args.instance.now in
    let certs = c.args.certs.now in
    let sides = c.args.sides.items in
    let first : Frame = record { due = 1; above = None } in
    let frames : c.push.new.self.items ≡ first ∷ [] =
    c.in_ok-push.ensures.items ∙ ap (λ (fs : List Frame). fs ++ first ∷ []) c.new-frames.ensures.items in
    joining_alike i certs c.in_ok-walk.walk sides sides (first ∷ []) c.push.new.self.items [] c.new-2.result.items refl frames c.new-2.ensures.items
    (joining_first i certs c.in_ok-walk.walk sides c.nodes-nodes.ensures.instance c.requires.some c.requires.trees c.in_ok-walk.ensures c.requires.count
    c.requires.each)
