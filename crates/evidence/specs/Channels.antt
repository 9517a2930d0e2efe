-- Which trees speak of no channel.
use Rattle.std.specs.Prelude.{◌≢◌, ℕ, Contains}
use Rattle.ttp_model.specs.declared.step.Leaf.{Leaf}
use Rattle.ttp_model.specs.declared.step.Kind.TheVariants.{Chan}
use Rattle.ttp_model.specs.declared.step.Step.TheVariants.{XChannel}
use Rattle.certificate.specs.declared.branch.Branch.{Branch}
use Rattle.certificate.specs.declared.node.Node.TheVariants as node
use Rattle.certificate.specs.Trees.{Trees, preorder}

-- no branch is on the channel of a message, and no step is of one channel
pub record SpeaksOfNoChannel (tree : Trees) : Type 0 where
  pub branches : (branch : Branch) → Contains (preorder tree) (node.Branch branch) → (m : ℕ) → branch.kind ≢ Chan m
  pub steps : (leaf : Leaf) → Contains (preorder tree) (node.Leaf leaf) → (k n a b : ℕ) → ¬ Contains leaf.steps (XChannel k n a b)
