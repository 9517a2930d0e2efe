use Rattle.std.proofs.Common.{ap, ◌∙◌}
use Rattle.certificate.specs.Trees.{preorder}
use Rattle.certificate.specs.Cert.{Cert}
use Rattle.certificate.proofs.TreeLists.{preorder-trees_of}
use Rattle.used_decisions.proofs.dropping.accepted.Goals as goal

pub returns-in-Ok-clause-nodes : goal.returns-in-Ok-clause-nodes
returns-in-Ok-clause-nodes c = ap (λ (x : Cert). preorder x.tree) c.new-cert.ensures ∙ preorder-trees_of c.args.nodes.items
