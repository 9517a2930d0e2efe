use Rattle.std.proofs.Common.{sym, ap, ◌∙◌, length, ◌-◌}
use Rattle.std.proofs.lemmas.List.FromFn.{length-map-range_with_len}
use Rattle.search_trees.specs.Name.{child_name}
use Rattle.search_core.proofs.brood.Brood.len.Goals as goal

pub returns : goal.returns
returns c =
    sym (length-map-range_with_len (child_name c.self.inside.parent) c.self.inside.next (c.self.inside.end - c.self.inside.next)) ∙ ap length c.self.view_is
