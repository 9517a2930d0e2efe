use Rattle.std.proofs.Common.{◌≡◌, arith, ap, subst, sym, ◌∙◌}
use Rattle.ttp_model.specs.Rules.{IsInstance}
use Rattle.used_decisions.specs.Proved.{levelled}
use Rattle.used_decisions.specs.Ways.{Way}
use Rattle.used_decisions.proofs.Leaves.{proved_by_read}
use Rattle.used_decisions.proofs.way.Way.uses_of.Goals as goal

pub returns-clause-proved : goal.returns-clause-proved
returns-clause-proved c = λ low within.
    let now = c.self.inside in
    let way = c.args.self.now in
    let is : now.path.instance ≡ way.instance = ap (λ (w : Way). w.instance) c.self.view_is in
    let turns : now.path.turns ≡ levelled 0 way.decisions = c.self.invariant.turns ∙ ap (λ (w : Way). levelled 0 w.decisions) c.self.view_is in
    let good : IsInstance way.instance = subst IsInstance (c.instance.ensures ∙ is) c.nodes-nodes.ensures.instance in
    proved_by_read way.instance now.reader way.decisions c.args.leaf.now c.in_ok-used.used now.path.turns c.depth-depth.result low
    (c.self.invariant.same ∙ is) turns (omega (arith, c.depth-depth.ensures)) good within c.requires.decisions c.requires.closes
    (λ ms room w are keeps closed. c.in_ok-used.ensures.kept ms (sym c.self.invariant.same) room w are keeps closed)
