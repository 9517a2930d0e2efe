use Rattle.std.proofs.Common.{ℕ, ◌≤◌, Option, IfSome, subst}
use Rattle.std.specs.Global.{Vec}
use Rattle.tt_choice.specs.declared.decision.Decision.{Decision}
use Rattle.tt_infer.specs.RuledOut.{IsRuledOut}
use Rattle.used_decisions.specs.Proved.{all_kept}
use Rattle.used_decisions.specs.Ways.{Way}
use Rattle.used_decisions.proofs.way.Way.proved.Goals as goal

pub returns-in-Some : goal.returns-in-Some
returns-in-Some c =
    let now = c.self.inside in
    let front = c.in-Some.front in
    subst (λ (w : Way). (low : ℕ) → low ≤ w.goal → IsRuledOut w.instance low (all_kept c.as_slice.result.now)) c.self.view_is
    (λ low within. rw c.as_slice.ensures.value (subst (λ (o : Option (Vec Decision)). IfSome o (λ ds. IsRuledOut now.path.instance low (all_kept ds.items)))
    c.in-Some.is (c.self.invariant.known low within).proved_so))
