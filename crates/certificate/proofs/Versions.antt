-- Which version allows all lines: the second does, and the first those of the trees that it is the version of.
use Rattle.std.proofs.Common.{◌≡◌, Bool, true, false, cond, List, [], ◌∷◌, All, refl, subst, ap}
use Rattle.std.specs.List.{list_all}
use Rattle.std.proofs.lemmas.List.Elements.{All-nil, All-cons, All-weaker}
use Rattle.std.proofs.lemmas.List.Sums.{AllPass-from_list_all, list_all-from_AllPass}
use Rattle.ttp_model.specs.declared.step.Step.{Step}
use Rattle.certificate.specs.declared.node.Node.{Node}
use Rattle.certificate.specs.declared.node.Node.TheVariants.{Branch, Leaf}
use Rattle.certificate.specs.declared.version.Version.{Version}
use Rattle.certificate.specs.declared.version.Version.TheVariants.{One, Two}
use Rattle.certificate.specs.Trees.{Trees, preorder}
use Rattle.certificate.specs.Words.{Row, branch_row, step_row}
use Rattle.certificate.specs.Versions.{allows_row, allows_step, allows_node, AllowsStep, AllowsNode, Allows, version_of_tree}

-- ---- the second version

by_either : (speaks : Bool) → cond speaks true true ≡ true
by_either true = refl
by_either false = refl

row_allowed : (row : Row) → allows_row Two row ≡ true
row_allowed row = by_either row.speaks_of_channels

steps_allowed : (steps : List Step) → All (AllowsStep Two) steps
steps_allowed [] = All-nil (AllowsStep Two)
steps_allowed (step ∷ steps) = All-cons (AllowsStep Two) step steps (row_allowed (step_row step)) (steps_allowed steps)

node_allowed : (node : Node) → AllowsNode Two node
node_allowed (Branch branch) = record { head = row_allowed (branch_row branch.kind 0); steps = All-nil (AllowsStep Two) }
node_allowed (Leaf leaf) = record { head = refl; steps = steps_allowed leaf.steps }

nodes_allowed : (nodes : List Node) → All (AllowsNode Two) nodes
nodes_allowed [] = All-nil (AllowsNode Two)
nodes_allowed (node ∷ nodes) = All-cons (AllowsNode Two) node nodes (node_allowed node) (nodes_allowed nodes)

pub two_allows_all : (trees : Trees) → Allows Two trees
two_allows_all trees = nodes_allowed (preorder trees)

-- so what the first allows, each does
pub each_allows : (version : Version) (trees : Trees) → Allows One trees → Allows version trees
each_allows One trees allowed = allowed
each_allows Two trees allowed = two_allows_all trees

-- ---- the version of a tree

node_by_test : (version : Version) (node : Node) → allows_node version node ≡ true → AllowsNode version node
node_by_test version (Branch branch) test = record { head = test; steps = All-nil (AllowsStep version) }
node_by_test version (Leaf leaf) test = record { head = refl; steps = AllPass-from_list_all (allows_step version) leaf.steps test }

test_of_node : (version : Version) (node : Node) → AllowsNode version node → allows_node version node ≡ true
test_of_node version (Branch branch) allowed = allowed.head
test_of_node version (Leaf leaf) allowed = list_all-from_AllPass (allows_step version) leaf.steps allowed.steps

nodes_by_test : (version : Version) (nodes : List Node) → list_all (allows_node version) nodes ≡ true → All (AllowsNode version) nodes
nodes_by_test version nodes test =
    All-weaker (λ node. allows_node version node ≡ true) (AllowsNode version) (node_by_test version) nodes
    (AllPass-from_list_all (allows_node version) nodes test)

test_of_nodes : (version : Version) (nodes : List Node) → All (AllowsNode version) nodes → list_all (allows_node version) nodes ≡ true
test_of_nodes version nodes allowed =
    list_all-from_AllPass (allows_node version) nodes
    (All-weaker (AllowsNode version) (λ node. allows_node version node ≡ true) (test_of_node version) nodes allowed)

allowed_by : (nodes : List Node) (test : Bool) → list_all (allows_node One) nodes ≡ test → All (AllowsNode (cond test One Two)) nodes
allowed_by nodes true is = nodes_by_test One nodes is
allowed_by nodes false is = nodes_allowed nodes

pub version_allows : (trees : Trees) → Allows (version_of_tree trees) trees
version_allows trees = allowed_by (preorder trees) (list_all (allows_node One) (preorder trees)) refl

pub version_is_first : (trees : Trees) → Allows One trees → version_of_tree trees ≡ One
version_is_first trees allowed = ap (λ (test : Bool). cond test One Two) (test_of_nodes One (preorder trees) allowed)

pub first_allows : (trees : Trees) → version_of_tree trees ≡ One → Allows One trees
first_allows trees is = subst (λ (version : Version). Allows version trees) is (version_allows trees)
