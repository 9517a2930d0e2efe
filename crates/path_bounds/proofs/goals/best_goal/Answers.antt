use Rattle.std.proofs.Common.{ℕ, ◌≤◌, min, Result, Ok, Err, IfOk, arith}
use Rattle.ttp_model.specs.declared.error.MemoryFault.{MemoryFault}
use Rattle.ttp_model.specs.declared.step.Leaf.{Leaf}
use Rattle.ttp_model.specs.Instance.{Instance}
use Rattle.ttp_model.specs.Chains.{IsPathBound}
use Rattle.path_bounds.proofs.goals.best_goal.Goals as goal

lesser : (i : Instance) (top : ℕ) (answer : Result Leaf MemoryFault) → IfOk answer (λ leaf. (bound : ℕ) → IsPathBound i bound → bound ≤ leaf.goal)
    → IfOk answer (λ leaf. (bound : ℕ) → IsPathBound i bound → min top bound ≤ leaf.goal)
lesser i top (Ok leaf) h = λ bound is. omega (arith, h bound is)
lesser i top (Err fault) h = h

pub returns-in-None-clause-bound : goal.returns-in-None-clause-bound
returns-in-None-clause-bound c = lesser c.args.instance.now c.args.top c.leaf_below.result c.leaf_below.ensures.bound
