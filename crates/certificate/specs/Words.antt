-- What the lines of a certificate say: a keyword and numbers, each after a space. Own profile.
use Rattle.std.specs.Prelude.{ℕ, List, [], ◌∷◌, length, codes, if◌then◌else◌, ◌==◌}
use Rattle.ttp_model.specs.declared.step.Kind.{Kind}
use Rattle.ttp_model.specs.declared.step.Kind.TheVariants.{Place, Cap, Pair, Round, Chan}
use Rattle.ttp_model.specs.declared.step.Step.{Step}
use Rattle.certificate.specs.declared.head.Head.{Head}
use Rattle.certificate.specs.declared.head.Head.TheVariants.{OfBranch, OfLeaf}
use Rattle.certificate.specs.declared.node.Node.{Node}
use Rattle.certificate.specs.declared.node.Node.TheVariants.{Branch, Leaf}
use Rattle.certificate.specs.Branch.{branch_of}
pub use Rattle.tt_infer.specs.Lines.{Words, Row, plain_line, channel_line}
pub use Rattle.tt_infer.specs.Table.{step_row, step_words, IsLong, steps_with}

-- the line of the bound
abbrev pub low_words : ℕ → Words
low_words low = (codes "low", low ∷ [])

-- the line of a branch with so many children: a count that its kind always has is written where a channel is taken alone
abbrev pub branch_row : Kind → ℕ → Row
branch_row Place k = plain_line (codes "place") (k ∷ [])
branch_row (Cap n) k = plain_line (codes "cap") (n ∷ k ∷ [])
branch_row (Pair p q) k = plain_line (codes "pair") (p ∷ q ∷ [])
branch_row (Round m r) k = plain_line (codes "round") (m ∷ r ∷ [])
branch_row (Chan m) k = channel_line (codes "chan") (m ∷ k ∷ [])

abbrev pub branch_words : Kind → ℕ → Words
branch_words kind k = (branch_row kind k).words

-- the line of a node: a leaf's goal comes before its count of steps
abbrev pub head_words : Head → Words
head_words (OfBranch branch) = branch_words branch.kind branch.children
head_words (OfLeaf goal count) = (codes "leaf", goal ∷ count ∷ [])

-- ---- what can be said with so many numbers

abbrev pub lows_with : List ℕ → List ℕ
lows_with (n ∷ []) = n ∷ []
lows_with _ = []

-- a message's channel is taken by three children, and its line names just so many
abbrev pub channel_heads : ℕ → ℕ → List Head
channel_heads m k = if k == 3 then OfBranch (branch_of (Chan m) 3) ∷ [] else []

abbrev pub heads_with : List ℕ → List Head
heads_with (k ∷ []) = OfBranch (branch_of Place k) ∷ []
heads_with (a ∷ b ∷ []) =
    OfBranch (branch_of (Cap a) b) ∷ OfBranch (branch_of (Pair a b) 2)
    ∷ OfBranch (branch_of (Round a b) 2) ∷ OfLeaf a b ∷ channel_heads a b
heads_with _ = []

-- ---- what a node is beside its steps

abbrev pub head_of : Node → Head
head_of (Branch branch) = OfBranch branch
head_of (Leaf leaf) = OfLeaf leaf.goal (length leaf.steps)

abbrev pub steps_of : Node → List Step
steps_of (Leaf leaf) = leaf.steps
steps_of _ = []

-- how many steps follow a node's line
abbrev pub count_of : Head → ℕ
count_of (OfLeaf goal count) = count
count_of _ = 0

-- how many trees stand below a node
abbrev pub head_children : Head → ℕ
head_children (OfBranch branch) = branch.children
head_children (OfLeaf goal count) = 0

-- the node of a line and the steps that follow it
abbrev pub node_of_head : Head → List Step → Node
node_of_head (OfBranch branch) steps = Branch branch
node_of_head (OfLeaf goal count) steps = Leaf (record { goal = goal; steps = steps })
