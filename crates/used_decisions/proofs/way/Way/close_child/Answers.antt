use Rattle.std.proofs.Common.{◌≡◌, ◌≤◌, List, ◌∷◌, [], ◌++◌, arith, ap, subst, sym, ◌∙◌}
use Rattle.ttp_model.specs.Instance.{Instance}
use Rattle.tt_choice.specs.declared.decision.Decision.{Decision}
use Rattle.tt_choice.specs.Decisions.{chosen, decision_of}
use Rattle.used_decisions.specs.declared.turn.Turn.{Turn}
use Rattle.used_decisions.specs.Turns.{placed_of, nodes_of}
use Rattle.used_decisions.specs.Proved.{IsProvedBy}
use Rattle.used_decisions.specs.Ways.{Way, decisions_of}
use Rattle.used_decisions.proofs.Marks.{prefix_is}
use Rattle.used_decisions.proofs.way.Way.close_child.Goals as goal

-- The decision is that of the child, by the order of the path; so what the subtree needs, the child does.
pub close_of-requires-clause-proved : goal.close_of-requires-clause-proved
close_of-requires-clause-proved c = λ low within.
    let old = c.args.self.now in
    let now = c.go_up.new.self in
    let up = c.in-Some.ensures in
    let path = c.self.inside.path in
    let ds = decisions_of c.self.inside.taken.items in
    let kind = c.in-Some-branch.branch.kind in
    let child = c.in-Some-child_of.child in
    let d = c.in-Some.last.decision in
    let order = prefix_is path.instance ds ∙ ap (λ (turns : List Turn). nodes_of (placed_of turns)) (sym c.self.invariant.turns) in
    let leads : d ≡ decision_of now.instance (chosen now.instance now.decisions) kind child =
    subst (λ (w : Way). d ≡ decision_of w.instance (chosen w.instance w.decisions) kind child) c.self.view_is
    (c.in-Some-child_of.ensures (chosen path.instance ds) order) in
    let whole = up.last ∙ ap (λ (x : Decision). now.decisions ++ x ∷ []) leads in
    let reached : low ≤ old.goal = omega (arith, within, up.goal) in
    subst (λ (xs : List Decision). IsProvedBy now.instance low c.args.used xs) whole
    (subst (λ (i : Instance). IsProvedBy i low c.args.used old.decisions) (sym up.instance) (c.requires low reached))
