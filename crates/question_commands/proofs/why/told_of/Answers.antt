use Rattle.std.proofs.Common.{refl}
use Rattle.std.proofs.lemmas.Result.{err_from_is_err_and}
use Rattle.command_streams.proofs.Outcomes.{keeps}
use Rattle.question_commands.proofs.Lines.{unsaid}
use Rattle.question_commands.proofs.Told.{lines_broken, plain_broken, search_broken}
use Rattle.question_commands.proofs.why.told_of.Goals as goal

pub returns-in-Err-clause-told : goal.returns-in-Err-clause-told
returns-in-Err-clause-told g c =
    search_broken c.args.instance.now c.args.asking.now.options c.args.late (g.W.Write.contents c.args.out.now) (g.W.Write.contents c.args.out.now)
    c.told_as.result (keeps (g.W.Write.contents c.args.out.now))

pub returns-in_ok-tell_plan-in-Plan-clause-told : goal.returns-in_ok-tell_plan-in-Plan-clause-told
returns-in_ok-tell_plan-in-Plan-clause-told g c = record {
  answer = c.in-Ok.first;
  is = c.in-Ok.ensures;
  ends = rw c.in-Plan.is refl;
  written = rw c.in-Plan.is c.in_ok-tell_plan-in-Plan.ensures.ok;
}

pub returns-in_err-tell_plan-in-Plan-clause-told : goal.returns-in_err-tell_plan-in-Plan-clause-told
returns-in_err-tell_plan-in-Plan-clause-told g c =
    let p = err_from_is_err_and c.from_residual.result c.from_residual.ensures.1 in
    rw (p.1, p.2)
    (plain_broken c.args.instance.now c.args.asking.now.options c.args.late (g.W.Write.contents c.args.out.now) (g.W.Write.contents c.tell_plan.new.out)
    c.in-Ok.first c.in-Ok.ensures c.in_err-tell_plan-in-Plan.field-0.0 (rw c.in-Plan.is c.in_err-tell_plan-in-Plan.ensures.err))

pub returns-in-None-clause-told : goal.returns-in-None-clause-told
returns-in-None-clause-told g c =
    lines_broken c.args.instance.now c.args.asking.now.options c.args.late (g.W.Write.contents c.args.out.now) (g.W.Write.contents c.tell_narrowed.new.out)
    c.tell_narrowed.result c.tell_narrowed.ensures.told

pub returns-in_ok-say-in-Unknown-clause-told : goal.returns-in_ok-say-in-Unknown-clause-told
returns-in_ok-say-in-Unknown-clause-told g c = record {
  answer = c.in-Ok.first;
  is = c.in-Ok.ensures;
  ends = rw c.in-Unknown.is refl;
  written = rw c.in-Unknown.is c.in_ok-say-in-Unknown.ensures.ok;
}

pub returns-in_err-say-in-Unknown-clause-told : goal.returns-in_err-say-in-Unknown-clause-told
returns-in_err-say-in-Unknown-clause-told g c =
    let p = err_from_is_err_and c.from_residual-in_err-say-in-Unknown.result c.from_residual-in_err-say-in-Unknown.ensures.1 in
    let fault = c.in_err-say-in-Unknown.field-0.0 in
    let said = unsaid _ (g.W.Write.contents c.args.out.now) (g.W.Write.contents c.say.new.out) fault c.in_err-say-in-Unknown.ensures.err in
    rw (p.1, p.2)
    (plain_broken c.args.instance.now c.args.asking.now.options c.args.late (g.W.Write.contents c.args.out.now) (g.W.Write.contents c.say.new.out)
    c.in-Ok.first c.in-Ok.ensures fault (rw c.in-Unknown.is said))
