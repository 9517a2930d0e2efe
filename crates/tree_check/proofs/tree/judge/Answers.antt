use Rattle.std.proofs.Common.{◌≤◌, ◌∙◌, ℕ, OnOk, Result, Ok, Err, refl}
use Rattle.std.proofs.lemmas.Result.{err_from_is_err_and}
use Rattle.ttp_model.specs.declared.step.Leaf.{Leaf}
use Rattle.ttp_model.specs.Instance.{Instance}
use Rattle.tt_choice.specs.Choice.{Choice, bare}
use Rattle.tt_infer.specs.Leaves.{ClosesLeaf}
use Rattle.certificate.specs.declared.branch.Branch.{Branch}
use Rattle.certificate.specs.declared.node.Node.TheVariants as node
use Rattle.tree_check.specs.declared.fault.CertFault.{CertFault}
use Rattle.tree_check.specs.declared.fault.CertFault.TheVariants.{LowTooGreat, At, OutOfMemory}
use Rattle.tree_check.specs.Proofs.{ClosesFrom}
use Rattle.tree_check.specs.Seen.{TellsBranch, TellsNode}
use Rattle.tree_check.proofs.tree.judge.Goals as goal

-- what is told of a branch is told of the node that it is
tells_node : (i : Instance) (low : ℕ) (c : Choice) (branch : Branch) (line : ℕ) (fault : CertFault) → TellsBranch i c branch line fault
    → TellsNode i low c (node.Branch branch) line fault
tells_node i low c branch line LowTooGreat tells = tells
tells_node i low c branch line (At at fault) tells = λ first is. (first, tells.0 ∙ is, (refl, tells.1))
tells_node i low c branch line OutOfMemory tells = tells

-- a leaf that closes does so from its goal, if that isn't below the bound
closes_from : {T E : Type 0} (i : Instance) (low : ℕ) (c : Choice) (leaf : Leaf) (r : Result T E) → OnOk r (low ≤ leaf.goal)
    → OnOk r (ClosesLeaf i c leaf) → OnOk r (ClosesFrom i low c leaf)
closes_from i low c leaf (Ok done) goal closes = record { goal = goal; closes = closes }
closes_from i low c leaf (Err fault) goal closes = tt

always_ok : {T E P : Type 0} (r : Result T E) → P → OnOk r P
always_ok (Ok done) p = p
always_ok (Err fault) p = tt

pub returns-in_err-branch-in-Branch-clause-suits : goal.returns-in_err-branch-in-Branch-clause-suits
returns-in_err-branch-in-Branch-clause-suits c =
    let p = err_from_is_err_and c.from_residual.result c.from_residual.ensures.1 in
    rw p.1 tt

pub returns-in_err-branch-in-Branch-clause-below : goal.returns-in_err-branch-in-Branch-clause-below
returns-in_err-branch-in-Branch-clause-below c =
    let p = err_from_is_err_and c.from_residual.result c.from_residual.ensures.1 in
    rw p.1 tt

pub returns-in_err-branch-in-Branch-clause-err : goal.returns-in_err-branch-in-Branch-clause-err
returns-in_err-branch-in-Branch-clause-err c =
    let fault = c.in_err-branch-in-Branch.field-0.0 in
    let p = err_from_is_err_and c.from_residual.result c.from_residual.ensures.1 in
    rw (p.1, p.2, c.in-Branch.is) (tells_node c.args.instance.now c.args.low (bare c.args.walk.now.choice) c.in-Branch.branch c.args.line fault
    c.in_err-branch-in-Branch.ensures.err)

pub returns-in_ok-branch-in-Branch-clause-suits : goal.returns-in_ok-branch-in-Branch-clause-suits
returns-in_ok-branch-in-Branch-clause-suits c = rw c.in-Branch.is c.in_ok-branch-in-Branch.ensures.suits

pub returns-in_ok-branch-in-Branch-clause-below : goal.returns-in_ok-branch-in-Branch-clause-below
returns-in_ok-branch-in-Branch-clause-below c = λ left walk. rw c.in-Branch.is (c.in_ok-branch-in-Branch.ensures.below left walk)

pub returns-in-Leaf-clause-suits : goal.returns-in-Leaf-clause-suits
returns-in-Leaf-clause-suits c =
    let closes = rw (c.requires.room, c.choice.ensures, c.as_slice-steps.ensures.value) at c.judge_leaf.ensures.closes in
    rw c.in-Leaf.is (closes_from c.args.instance.now c.args.low (bare c.args.walk.now.choice) c.in-Leaf.leaf c.judge_leaf.result
    c.judge_leaf.ensures.goal closes)

pub returns-in-Leaf-clause-below : goal.returns-in-Leaf-clause-below
returns-in-Leaf-clause-below c = rw c.in-Leaf.is (always_ok c.judge_leaf.result (λ left walk. walk))

pub returns-in-Leaf-clause-err : goal.returns-in-Leaf-clause-err
returns-in-Leaf-clause-err c = rw c.in-Leaf.is (rw (c.requires.room, c.choice.ensures, c.as_slice-steps.ensures.value) at c.judge_leaf.ensures.err)
