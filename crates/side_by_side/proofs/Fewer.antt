-- Behind a place fewer nodes are left.
use Rattle.std.proofs.Common.{◌≡◌, ℕ, zero, suc, ◌+◌, ◌<◌, ◌≤◌, List, ◌++◌, length, drop, Bool, true, false, cond, arith, inl, inr, refl, ap}
use Rattle.std.proofs.lemmas.Bool.{cases_eq}
use Rattle.std.proofs.lemmas.List.{length-append}
use Rattle.certificate.specs.declared.node.Node.{Node}
use Rattle.certificate.specs.Trees.{Trees, none, grow, AreTrees, preorder}
use Rattle.certificate.specs.Cert.{Cert}
use Rattle.side_by_side.specs.declared.side.Side.{Side}
use Rattle.side_by_side.specs.Joined.{below_top}
use Rattle.side_by_side.specs.Left.{left_at, left_of}
use Rattle.side_by_side.proofs.Gone.{GoneOn}

-- one, where a tree is there
abbrev pub one_there : Trees → ℕ
one_there none = 0
one_there (grow node below beside) = 1

pub some_there : (count : ℕ) (trees : Trees) → AreTrees (suc count) trees → one_there trees ≡ 1
some_there count none are = absurd are
some_there count (grow node below beside) are = refl

pub gone_fewer : (height : ℕ) (nodes : List Node) (old new : Side) (count below_count : ℕ) (trees : Trees) (on : Bool) (more : List Node)
    → GoneOn height nodes old new count below_count trees (cond on (below_top trees) none) more → drop old.passed nodes ≡ preorder trees ++ more
    → length (drop new.passed nodes) + one_there trees ≤ length (drop old.passed nodes)
gone_fewer height nodes old new count below_count none true more gone left = omega (arith, ap length gone.left, ap length left)
gone_fewer height nodes old new count below_count none false more gone left = omega (arith, ap length gone.left, ap length left)
gone_fewer height nodes old new count below_count (grow own below beside) true more gone left =
    omega (
      arith,
      ap length gone.left,
      ap length left,
      length-append (preorder below) (preorder beside ++ more),
      length-append (preorder beside) more,
      length-append (preorder below ++ preorder beside) more,
      length-append (preorder below) (preorder beside),
    )
gone_fewer height nodes old new count below_count (grow own below beside) false more gone left =
    omega (
      arith,
      ap length gone.left,
      ap length left,
      length-append (preorder beside) more,
      length-append (preorder below ++ preorder beside) more,
      length-append (preorder below) (preorder beside),
    )

module _ (certs : List Cert) (old new : List Side) where
  no_more_left : (count : ℕ) → ((k : ℕ) → k < count → left_at certs new k ≤ left_at certs old k) → left_of certs new count ≤ left_of certs old count
  unfolding left_of
  no_more_left zero each = omega arith
  no_more_left (suc count) each = omega (arith, no_more_left count (λ k inside. each k (omega (arith, inside))), each count (omega arith))

  pub fewer_left : (count k : ℕ) → ((j : ℕ) → j < count → left_at certs new j ≤ left_at certs old j) → k < count
      → left_at certs new k < left_at certs old k → left_of certs new count < left_of certs old count
  unfolding left_of
  fewer_left zero k each inside less = absurd (omega (arith, inside))
  fewer_left (suc count) k each inside less =
      let before : (j : ℕ) → j < count → left_at certs new j ≤ left_at certs old j = λ j within. each j (omega (arith, within)) in
      elim (cases_eq k count) [
        | inl same ↦
            let here : left_at certs new count < left_at certs old count = rw (← same) less in
            omega (arith, here, no_more_left count before)
        | inr other ↦ omega (arith, fewer_left count k before (omega (arith, inside, other)) less, each count (omega arith))
      ]
