use Rattle.std.proofs.Common.{◌++◌, arith, refl, reverse, ◌∙◌}
use Rattle.std.proofs.lemmas.List.{nil_from_length}
use Rattle.std.proofs.lemmas.Result.{err_from_is_err_and}
use Rattle.tree_check.specs.Turns.{turns_to}
use Rattle.tree_check.proofs.Turns.{pushed_front, all_in_front}
use Rattle.tree_check.proofs.walk.push_turns.Goals as goal

pub loop-decision-init : goal.loop-decision-init
loop-decision-init c = refl

pub returns-in_err-push : goal.returns-in_err-push
returns-in_err-push c =
    let p = err_from_is_err_and c.from_residual.result c.from_residual.ensures.1 in
    rw p.1 tt

pub loop-decision-preserved : goal.loop-decision-preserved
loop-decision-preserved c =
    pushed_front c.loop-decision.decisions.items c.pop.new.self.items c.in-Some.decision c.loop-decision.turns.items c.push.new.self.items
    c.push-in-Some.new.self.items c.in-Some.ensures.items c.in_ok-push.ensures.items c.in_ok-push-2.ensures.items
    ∙ c.loop-decision.invariant

pub returns-in_err-push-2 : goal.returns-in_err-push-2
returns-in_err-push-2 c =
    let p = err_from_is_err_and c.from_residual-in_err-push-2.result c.from_residual-in_err-push-2.ensures.1 in
    rw p.1 tt

pub returns : goal.returns
returns c =
    let ds = c.loop-decision.decisions in
    all_in_front ds.items c.loop-decision.turns.items (turns_to c.args.decisions.items ++ reverse c.args.turns.now.items)
    (nil_from_length ds.items (omega (arith, c.in_default.ensures.cases.0, ds.ok))) c.loop-decision.invariant
