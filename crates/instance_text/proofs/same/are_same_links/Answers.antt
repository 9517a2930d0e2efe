use Rattle.std.proofs.Common.{◌∙◌, sym}
use Rattle.instance_text.proofs.Alike.{lists_same, link_same}
use Rattle.instance_text.proofs.same.are_same_links.Goals as goal

-- src/same.rt
pub returns : goal.returns
returns c = λ alike. lists_same link_same c.args.some.now c.args.others.now (sym c.eq.ensures ∙ alike)
