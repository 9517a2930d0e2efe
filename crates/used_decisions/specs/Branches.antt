-- How many branches a tree has. Own profile.
use Rattle.std.specs.Prelude.{ℕ, Bool, true, false, count_by}
use Rattle.certificate.specs.declared.node.Node.{Node}
use Rattle.certificate.specs.declared.node.Node.TheVariants as node
use Rattle.certificate.specs.Trees.{Trees, preorder}

abbrev pub is_branch : Node → Bool
is_branch (node.Leaf leaf) = false
is_branch _ = true

-- how many branches a tree has
abbrev pub branches : Trees → ℕ
branches tree = count_by is_branch (preorder tree)
