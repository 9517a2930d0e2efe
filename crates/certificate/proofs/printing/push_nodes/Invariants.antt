use Rattle.std.proofs.Common.{◌≡◌, ◌++◌, take, All}
use Rattle.std.specs.List.{flat_map}
use Rattle.certificate.specs.Spelling.{node_text, NodeHasText}
use Rattle.certificate.proofs.printing.push_nodes.Given as goal

abbrev pub invariant-loop-node : goal.invariant-loop-node
invariant-loop-node l = (l.text.items ≡ l.initial.text.items ++ flat_map node_text (take l.node-index l.nodes)) × All NodeHasText (take l.node-index l.nodes)
