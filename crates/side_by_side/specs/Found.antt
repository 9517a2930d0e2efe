-- Which of several certificates is found to have the greatest number at a place. Only private contracts ask for it.
use Rattle.std.specs.Prelude.{◌≡◌, ℕ, ◌<◌, ◌≤◌, List, [], ◌∷◌, drop, slice_index_or, Option, None, Some, Bool, true, nat_lt, if◌then◌else◌}
use Rattle.ttp_model.specs.declared.step.Leaf.{Leaf}
use Rattle.certificate.specs.declared.head.Head.{Head}
use Rattle.certificate.specs.declared.head.Head.TheVariants.{OfBranch, OfLeaf}
use Rattle.certificate.specs.declared.node.Node.{Node}
use Rattle.certificate.specs.Words.{head_of}
use Rattle.certificate.specs.Trees.{preorder}
use Rattle.certificate.specs.Cert.{Cert}
use Rattle.side_by_side.specs.declared.side.Side.{Side}
use Rattle.side_by_side.specs.declared.side.Best.{Best}
use Rattle.side_by_side.specs.declared.side.Compared.{Compared}
use Rattle.side_by_side.specs.declared.side.Compared.TheVariants.{Goals, Bounds}
use Rattle.side_by_side.specs.Joined.{IsFirstGreatest, certificate_at}

-- how far the certificate of a number is passed
abbrev pub side_at : List Side → ℕ → Side
side_at sides k = slice_index_or sides k (record { passed = 0; level = 0 })

-- the line of the first of nodes
abbrev pub first_head : List Node → Option Head
first_head [] = None
first_head (node ∷ nodes) = Some (head_of node)

-- the line on top of what is left, where it takes part below so many branches
abbrev pub top_of : List Node → Side → ℕ → Option Head
top_of nodes side depth = if nat_lt side.level depth then None else first_head (drop side.passed nodes)

-- the goal of a leaf from above
abbrev pub goal_of : Option Leaf → Option ℕ
goal_of None = None
goal_of (Some leaf) = Some leaf.goal

-- what is compared of a line
abbrev pub number_of : Compared → ℕ → Option Head → Option ℕ
number_of wanted low None = None
number_of Goals low (Some (OfBranch branch)) = None
number_of Goals low (Some (OfLeaf goal count)) = Some goal
number_of Bounds low (Some (OfBranch branch)) = Some low
number_of Bounds low (Some (OfLeaf goal count)) = None

-- and of each certificate
abbrev pub number_at : List Cert → List Side → ℕ → Compared → ℕ → Option ℕ
number_at certs sides depth wanted k =
    number_of wanted (certificate_at certs k).low (top_of (preorder (certificate_at certs k).tree) (side_at sides k) depth)

abbrev pub exceeds : ℕ → Option ℕ → Bool
exceeds number None = true
exceeds number (Some most) = nat_lt most number

-- the better of what was best so far and what another one has
abbrev pub better : Best → ℕ → Option ℕ → Best
better best k None = best
better best k (Some number) = if exceeds number best.most then record { number = Some k; most = Some number } else best

-- what is found of so many: the first that has the greatest number, and it is greater than the one above; or no number is
abbrev pub IsFound : ℕ → (ℕ → Option ℕ) → (above : Option ℕ) → Option ℕ → Type 0
IsFound count has above None = (k number : ℕ) → k < count → has k ≡ Some number → (most : ℕ) × (above ≡ Some most) × (number ≤ most)
IsFound count has above (Some k) =
    (most : ℕ) × IsFirstGreatest count has k most × ((other : ℕ) → above ≡ Some other → other < most)

-- the same with the number, of the first so many
abbrev pub IsFoundSoFar : ℕ → (ℕ → Option ℕ) → (above : Option ℕ) → (number most : Option ℕ) → Type 0
IsFoundSoFar count has above None most = (most ≡ above) × IsFound count has above None
IsFoundSoFar count has above (Some k) most =
    (greatest : ℕ) × (most ≡ Some greatest) × IsFirstGreatest count has k greatest × ((other : ℕ) → above ≡ Some other → other < greatest)
