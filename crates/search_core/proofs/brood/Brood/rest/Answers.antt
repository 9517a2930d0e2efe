use Rattle.std.proofs.Common.{arith, ◌∙◌, ap, drop}
use Rattle.search_core.proofs.Turned.{children_behind}
use Rattle.search_core.proofs.brood.Brood.rest.Goals as goal

pub returns : goal.returns
returns c =
    children_behind c.self.inside.parent c.self.inside.next c.self.inside.end (omega arith) ∙ ap (drop 1) c.self.view_is
