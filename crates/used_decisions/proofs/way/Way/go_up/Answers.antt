use Rattle.std.proofs.Common.{◌≡◌, List, [], ◌∷◌, ◌++◌, arith, subst}
use Rattle.used_decisions.specs.Turns.{path_above}
use Rattle.used_decisions.specs.Ways.{decisions_of, IsOpenBranch, IsWay}
use Rattle.used_decisions.specs.declared.way.Taken.{Taken}
use Rattle.used_decisions.proofs.Ways.{way_up, way_without, each_bound}
use Rattle.used_decisions.proofs.way.Way.go_up.Goals as goal

pub invariant_of-self-2 : goal.invariant_of-self-2
invariant_of-self-2 c =
    let old = c.self.inside in
    let left = c.pop.new.self.items in
    let last = c.in_ok-last.last in
    let is : old.taken.items ≡ left ++ last ∷ [] = c.in_ok-last.ensures.items in
    let way = subst (λ (taken : List Taken). IsWay old.path old.reader taken old.ending old.proved old.goal) is c.self.invariant in
    let up = way_up old.path old.reader left last old.ending old.proved old.goal way in
    rw c.go_up.ensures (way_without (path_above old.path) old.reader left last.branch old.proved old.goal old.goal (omega arith) up)

pub returns-clause-branch : goal.returns-clause-branch
returns-clause-branch c =
    let old = c.self.inside in
    let left = c.pop.new.self.items in
    let last = c.in_ok-last.last in
    let is : old.taken.items ≡ left ++ last ∷ [] = c.in_ok-last.ensures.items in
    let way = subst (λ (taken : List Taken). IsWay old.path old.reader taken old.ending old.proved old.goal) is c.self.invariant in
    let up = way_up old.path old.reader left last old.ending old.proved old.goal way in
    rw c.go_up.ensures (each_bound last.branch (λ low branch. IsOpenBranch old.path.instance low (decisions_of left) branch) old.goal
    (λ low within. (up.known low within).ending_so))
