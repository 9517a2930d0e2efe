-- The versions of a certificate's text: how each begins, and which lines it may have. Own profile.
use Rattle.std.specs.Prelude.{◌≡◌, ◌==◌, ℕ, List, [], ◌∷◌, Option, Bool, true, false, if◌then◌else◌, bytes_eq, find, codes, All}
use Rattle.std.specs.List.{list_all}
use Rattle.ttp_model.specs.declared.step.Kind.{Kind}
use Rattle.ttp_model.specs.declared.step.Step.{Step}
use Rattle.ttp_model.specs.Instance.{Instance}
use Rattle.certificate.specs.declared.head.Head.{Head}
use Rattle.certificate.specs.declared.head.Head.TheVariants.{OfBranch, OfLeaf}
use Rattle.certificate.specs.declared.node.Node.{Node}
use Rattle.certificate.specs.declared.node.Node.TheVariants.{Branch, Leaf}
use Rattle.certificate.specs.declared.version.Version.{Version}
use Rattle.certificate.specs.declared.version.Version.TheVariants.{One, Two}
use Rattle.certificate.specs.Trees.{Trees, preorder}
use Rattle.certificate.specs.Words.{Row, branch_row, step_row, head_of, steps_of}

-- the first line of a text of this version
abbrev pub version_line : Version → List ℕ
version_line One = codes "ttcert 1"
version_line Two = codes "ttcert 2"

-- the version that a first line names
abbrev pub version_of : List ℕ → Option Version
version_of line = find (λ version. bytes_eq line (version_line version)) (One ∷ Two ∷ [])

-- the version of the certificates that answer for an instance: the first with one channel, and the second with two, also where no line needs it
abbrev pub answer_version : Instance → Version
answer_version i = if i.cluster.channels == 1 then One else Two

-- ---- which lines a version allows

-- any bound
abbrev pub allows_low : ℕ → Bool
allows_low low = true

-- the lines that speak of channels
abbrev pub allows_channels : Version → Bool
allows_channels One = false
allows_channels Two = true

abbrev pub allows_row : Version → Row → Bool
allows_row version row = if row.speaks_of_channels then allows_channels version else true

-- whatever its count of children
abbrev pub allows_kind : Version → Kind → Bool
allows_kind version kind = allows_row version (branch_row kind 0)

abbrev pub allows_head : Version → Head → Bool
allows_head version (OfBranch branch) = allows_kind version branch.kind
allows_head version (OfLeaf goal count) = true

abbrev pub allows_step : Version → Step → Bool
allows_step version step = allows_row version (step_row step)

abbrev pub AllowsStep : Version → Step → Type 0
AllowsStep version step = allows_step version step ≡ true

-- a node's line and those of its steps
pub record AllowsNode (version : Version) (node : Node) : Type 0 where
  pub head : allows_head version (head_of node) ≡ true
  pub steps : All (AllowsStep version) (steps_of node)

-- all lines of trees
abbrev pub Allows : Version → Trees → Type 0
Allows version trees = All (AllowsNode version) (preorder trees)

-- ---- the version of a tree

-- a node's line and those of its steps, as a test
abbrev pub allows_node : Version → Node → Bool
allows_node version (Branch branch) = allows_kind version branch.kind
allows_node version (Leaf leaf) = list_all (allows_step version) leaf.steps

-- version 1 where it allows all lines of these nodes, and else version 2
abbrev pub version_of_nodes : List Node → Version
version_of_nodes nodes = if list_all (allows_node One) nodes then One else Two

abbrev pub version_of_tree : Trees → Version
version_of_tree trees = version_of_nodes (preorder trees)
