use Rattle.std.proofs.Common.{ℕ, ◌≤◌, Some, ap, subst, sym, ◌∙◌}
use Rattle.used_decisions.specs.Proved.{levelled}
use Rattle.used_decisions.specs.Ways.{Way, IsOpenBranch}
use Rattle.used_decisions.proofs.Proved.{proved_by_all, places_in}
use Rattle.used_decisions.proofs.Ways.{way_with}
use Rattle.used_decisions.proofs.way.Way.take_in.Goals as goal

pub returns-then-is_closed-clause-above : goal.returns-then-is_closed-clause-above
returns-then-is_closed-clause-above c = λ low within.
    let way = c.args.self.now in
    let branch = c.args.branch in
    let has = c.requires.branch low within in
    let used = c.used_with.result in
    let turns = c.self.invariant.turns ∙ ap (λ (w : Way). levelled 0 w.decisions) c.self.view_is in
    proved_by_all way.instance low way.decisions branch.kind branch.children branch.closed branch.used used has
    (c.requires.closed c.if-is_closed.true) c.used_with.ensures.kept
    (λ is. places_in c.self.inside.path.turns way.decisions branch.used used turns has.wide (c.used_with.ensures.places is))

pub invariant_of-self : goal.invariant_of-self
invariant_of-self c =
    let now = c.self.inside in
    way_with now.path now.reader now.taken.items now.ending (Some c.args.branch) now.proved now.goal
    (subst (λ (w : Way). (low : ℕ) → low ≤ w.goal → IsOpenBranch w.instance low w.decisions c.args.branch) (sym c.self.view_is) c.requires.branch)
    c.self.invariant
