-- Where the nodes of a certificate and their steps stand in its text: lines are numbered from 1, the
-- first node's is line 3. Own profile.
use Rattle.std.specs.Prelude.{ℕ, ◌+◌, List, [], ◌∷◌, length, take}
use Rattle.certificate.specs.declared.node.Node.{Node}
use Rattle.certificate.specs.declared.node.Node.TheVariants.{Leaf}
use Rattle.certificate.specs.Trees.{Trees, preorder}

-- how many lines a node takes: its own, and one for each of its steps
abbrev pub node_lines : Node → ℕ
node_lines (Leaf leaf) = 1 + length leaf.steps
node_lines _ = 1

-- how many lines nodes take
abbrev pub total_lines : List Node → ℕ
total_lines [] = 0
total_lines (node ∷ nodes) = node_lines node + total_lines nodes

-- how many lines trees take
abbrev pub lines : Trees → ℕ
lines trees = total_lines (preorder trees)

-- the line of the node at this place, from 0, of nodes in preorder
abbrev pub line_of : List Node → ℕ → ℕ
line_of nodes k = 3 + total_lines (take k nodes)

-- the line of a step, from 0, of the leaf at this place
abbrev pub step_line : List Node → ℕ → ℕ → ℕ
step_line nodes k j = line_of nodes k + 1 + j
