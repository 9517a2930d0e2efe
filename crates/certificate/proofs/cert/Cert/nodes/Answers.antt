use Rattle.std.proofs.Common.{sym, ◌∙◌, ap}
use Rattle.certificate.specs.Trees.{preorder}
use Rattle.certificate.specs.Cert.{Cert}
use Rattle.certificate.proofs.TreeLists.{preorder-trees_of}
use Rattle.certificate.proofs.cert.Cert.nodes.Goals as goal

pub returns-clause-nodes : goal.returns-clause-nodes
returns-clause-nodes c =
    c.as_slice.ensures.value ∙ sym (preorder-trees_of c.self.inside.nodes.items) ∙ ap (λ (x : Cert). preorder x.tree) c.self.view_is
