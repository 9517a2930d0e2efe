-- What private functions read of a tree: its nodes in preorder. Own profile.
use Rattle.std.specs.Prelude.{◌≡◌, ℕ, List, Ok, Err}
use Rattle.certificate.specs.declared.node.Node.{Node}
use Rattle.certificate.specs.declared.version.Version.{Version}
use Rattle.certificate.specs.Trees.{Trees, preorder}
use Rattle.certificate.specs.Reading.{Reading, ReadsTrees}

-- trees as their nodes
abbrev pub nodes_in : Reading (Trees × List ℕ) → Reading (List Node × List ℕ)
nodes_in (Err fault) = Err fault
nodes_in (Ok trees) = Ok (preorder trees.0, trees.1)

-- the nodes of one tree, whose first line is line 3
abbrev pub ReadsNodes : Version → List ℕ → Reading (List Node × List ℕ) → Type 0
ReadsNodes version text read = (trees : Reading (Trees × List ℕ)) × (ReadsTrees version 0 1 3 text trees × (read ≡ nodes_in trees))
