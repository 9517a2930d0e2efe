use Rattle.std.proofs.Common.{◌≡◌, List, ◌∷◌, ◌++◌, [], refl, ap, ◌∙◌}
use Rattle.tt_choice.specs.declared.decision.Decision.{Decision}
use Rattle.tt_infer.specs.Facts.{Facts}
use Rattle.step_logs.specs.Propagator.{Checkpoint, IsThinned}
use Rattle.step_logs.proofs.KeptLogs.{above_at, decides_of, follows_at}
use Rattle.step_logs.proofs.propagator.Propagator.decide.Goals as goal

pub next_level-requires-clause-above : goal.next_level-requires-clause-above
next_level-requires-clause-above c =
    let left = rw (← c.self.view_is) at c.requires.left in
    above_at _ c.self.invariant left

pub next_level-requires-clause-follows : goal.next_level-requires-clause-follows
next_level-requires-clause-follows c = follows_at _ c.self.invariant

pub next_level-requires-clause-is_open : goal.next_level-requires-clause-is_open
next_level-requires-clause-is_open c = rw (ap (λ (s : Facts). s.instance) c.self.invariant.current.facts) (rw (← c.self.view_is) at c.requires.is_open)

pub invariant_of-self-2 : goal.invariant_of-self-2
invariant_of-self-2 c =
    let fresh = rw (← c.self.view_is) at c.requires.is_open in
    let decisions = c.push_reserved-2.ensures.items ∙ ap (λ (ds : List Decision). ds ++ c.args.decision ∷ []) c.reserve.ensures.items in
    let thinned : IsThinned c.self.inside.kept.items c.thin.new.kept.items = rw c.reserve-2.ensures.items at c.thin.ensures.thinned in
    let made : c.new.result ≡ record { decisions = c.self.inside.decisions.items; log = c.self.inside.current } =
    c.new.ensures ∙ (λ j. record { decisions = (c.in_ok-made.ensures.items ∙ c.as_slice.ensures.value ∙ c.reserve.ensures.items) j; log = c.replace-before.ensures.value j }) in
    decides_of _ c.args.decision c.push_reserved-2.new.self.items c.thin.new.kept.items c.push_reserved.new.self.items c.new.result c.in_ok-next.next c.replace-before.new.dest c.self.invariant fresh decisions thinned c.push_reserved.ensures.items made c.replace-before.ensures.after c.in_ok-next.ensures

pub returns-clause-ok : goal.returns-clause-ok
returns-clause-ok c = rw (← c.self.view_is) (record {
  instance = refl;
  goal = refl;
  decisions = c.push_reserved-2.ensures.items ∙ ap (λ (ds : List Decision). ds ++ c.args.decision ∷ []) c.reserve.ensures.items;
  before = c.thin.new.kept.items;
  thinned = rw c.reserve-2.ensures.items at c.thin.ensures.thinned;
  kept = c.push_reserved.ensures.items ∙ ap (λ (made : Checkpoint). c.thin.new.kept.items ++ made ∷ [])
      (c.new.ensures ∙ (λ j. record { decisions = (c.in_ok-made.ensures.items ∙ c.as_slice.ensures.value ∙ c.reserve.ensures.items) j; log = c.replace-before.ensures.value j }));
})
