use Rattle.std.proofs.Common.{ℕ, ◌≤◌, IfSome, subst, sym}
use Rattle.used_decisions.specs.Ways.{Way, IsOpenBranch}
use Rattle.used_decisions.proofs.Ways.{way_with}
use Rattle.used_decisions.proofs.way.Way.go_back_one.Goals as goal

pub invariant_of-self : goal.invariant_of-self
invariant_of-self c =
    let now = c.self.inside in
    let last = c.in-Some.last in
    way_with now.path now.reader now.taken.items now.ending last.branch now.proved now.goal
    (subst (λ (w : Way). IfSome last.branch (λ branch. (low : ℕ) → low ≤ w.goal → IsOpenBranch w.instance low w.decisions branch)) (sym c.self.view_is)
    c.in-Some.ensures.branch) c.self.invariant

pub invariant_of-self-in-Some-2 : goal.invariant_of-self-in-Some-2
invariant_of-self-in-Some-2 c =
    let now = c.self.inside in
    let last = c.in-Some.last in
    way_with now.path now.reader now.taken.items now.ending last.branch now.proved now.goal
    (subst (λ (w : Way). IfSome last.branch (λ branch. (low : ℕ) → low ≤ w.goal → IsOpenBranch w.instance low w.decisions branch)) (sym c.self.view_is)
    c.in-Some.ensures.branch) c.self.invariant
