use Rattle.std.proofs.Common.{◌≡◌, ◌++◌, ◌∷◌, [], List, ap, subst}
use Rattle.used_decisions.specs.declared.path.Taken.{Taken}
use Rattle.used_decisions.specs.Tables.{turns_of, IsPath}
use Rattle.used_decisions.proofs.Paths.{path_last, path_less, path_of, turns_less}
use Rattle.used_decisions.proofs.path.Path.go_up.Goals as goal

pub invariant_of-self : goal.invariant_of-self
invariant_of-self c =
    let old = c.self.inside in
    let left = c.pop.new.self.items in
    let is : old.taken.items ≡ left ++ c.in-Some.last ∷ [] = rw c.in-Some.is at c.pop.ensures.items in
    let path : IsPath old.instance.now old.tables (left ++ c.in-Some.last ∷ []) = subst (λ (taken : List Taken). IsPath old.instance.now old.tables taken) is c.self.invariant in
    path_less old.instance.now old.tables c.take_back.new.self left c.in-Some.last path (c.take_back.ensures (turns_of left) (path_last old.instance.now old.tables left c.in-Some.last path))

pub returns-in-Some : goal.returns-in-Some
returns-in-Some c =
    let old = c.self.inside in
    let left = c.pop.new.self.items in
    let is : old.taken.items ≡ left ++ c.in-Some.last ∷ [] = rw c.in-Some.is at c.pop.ensures.items in
    rw (← c.self.view_is, is) (ap (path_of old.instance.now) (turns_less left c.in-Some.last))
