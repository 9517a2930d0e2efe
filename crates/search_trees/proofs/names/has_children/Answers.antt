use Rattle.std.proofs.Common.{Bool, MatchBool, ℕ, Contains, subst, below_more, arith}
use Rattle.search_trees.specs.Name.{child_name}
use Rattle.search_trees.specs.Pieces.{names_of}
use Rattle.search_trees.proofs.names.has_children.Goals as goal

pub returns-then-not-branch : goal.returns-then-not-branch
returns-then-not-branch c =
    let There : ℕ → Type 0 = λ j. Contains (names_of c.args.pieces.now) (child_name c.args.piece.now.name j) in
    let lacking : ¬ There c.loop-k.k = subst (λ (b : Bool). MatchBool b (There c.loop-k.k) (¬ There c.loop-k.k))
    c.if-not-branch.true c.in_ok-has_child_of.ensures in
    record { index = c.loop-k.k; child = omega arith; lacking = lacking }

pub loop-k-preserved : goal.loop-k-preserved
loop-k-preserved c =
    let There : ℕ → Type 0 = λ j. Contains (names_of c.args.pieces.now) (child_name c.args.piece.now.name j) in
    below_more There c.loop-k.k c.loop-k.invariant (subst (λ (b : Bool). MatchBool b (There c.loop-k.k) (¬ There c.loop-k.k))
    c.if-not-branch.false c.in_ok-has_child_of.ensures)
