-- How many branches, leaves and steps a certificate's tree has, and how deep it is. Own profile.
use Rattle.std.specs.Prelude.{◌≡◌, ℕ, ◌-◌, ◌^◌, Bool, List, bytes_eq, count_by, length, min, sum_by}
use Rattle.ttp_model.specs.declared.step.Kind.TheVariants.{Place, Cap, Pair, Round, Chan}
use Rattle.certificate.specs.declared.head.Head.TheVariants.{OfLeaf}
use Rattle.certificate.specs.declared.node.Node.{Node}
use Rattle.certificate.specs.Trees.{Trees, levels, preorder}
use Rattle.certificate.specs.Words.{branch_words, head_of, head_words, steps_of}
use Rattle.certificate_reasons.specs.declared.sizes.TreeSize.{TreeSize}

-- the keyword of a node's line, which tells a branch's kind
abbrev pub keyword : Node → List ℕ
keyword node = (head_words (head_of node)).0

-- a node's line has this keyword
abbrev pub has_keyword : List ℕ → Node → Bool
has_keyword word node = bytes_eq (keyword node) word

-- how many nodes have it
abbrev pub nodes_with : List ℕ → List Node → ℕ
nodes_with word nodes = count_by (has_keyword word) nodes

-- how many steps a node has
abbrev pub step_count : Node → ℕ
step_count node = length (steps_of node)

-- how many steps nodes have; a number past the greatest one of 64 bits is told as that
abbrev pub told_steps : List Node → ℕ
told_steps nodes = min (sum_by step_count nodes) (2 ^ 64 - 1)

-- of a tree: each kind of branch by how its line begins
pub record IsTreeSize (tree : Trees) (x : TreeSize) : Type 0 where
  pub place_is : x.place ≡ nodes_with (branch_words Place 0).0 (preorder tree)
  pub cap_is : x.cap ≡ nodes_with (branch_words (Cap 0) 0).0 (preorder tree)
  pub pair_is : x.pair ≡ nodes_with (branch_words (Pair 0 0) 0).0 (preorder tree)
  pub round_is : x.round ≡ nodes_with (branch_words (Round 0 0) 0).0 (preorder tree)
  pub chan_is : x.chan ≡ nodes_with (branch_words (Chan 0) 0).0 (preorder tree)
  pub leaves_are : x.leaves ≡ nodes_with (head_words (OfLeaf 0 0)).0 (preorder tree)
  pub steps_are : x.steps ≡ told_steps (preorder tree)
  pub above_is : x.above ≡ levels tree - 1
