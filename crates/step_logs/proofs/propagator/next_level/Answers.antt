use Rattle.std.proofs.Common.{◌≡◌, [], refl, sym, subst}
use Rattle.ttp_model.specs.declared.plan.Plan.{Plan}
use Rattle.tt_choice.specs.Choice.{IsComplete}
use Rattle.tt_choice.specs.Decisions.{choice_after}
use Rattle.tt_infer.specs.Facts.{Facts, after}
use Rattle.step_logs.specs.PlansBelow.{IsPlanBelow}
use Rattle.step_logs.specs.Propagator.{Begins, first_log}
use Rattle.step_logs.proofs.KeptLogs.{level_of}
use Rattle.step_logs.proofs.Logs.{advances_trans}
use Rattle.step_logs.proofs.propagator.next_level.Goals as goal

pub returns : goal.returns
returns c =
    let s = c.args.level.now.facts in
    let made = choice_after s.instance s.choice c.args.decision in
    let start = first_log s.instance made s.goal in
    let first = start.facts in
    let reached = c.go_on.new.journal.facts in
    let far = advances_trans _ _ _ c.in_ok-next.ensures c.go_on.ensures in
    let about : reached ≡ after first reached.known = far.facts in
    let begins : Begins s.instance made s.goal start = record { facts = refl } in
    let facts = rw (c.facts.ensures, c.in_ok-next.ensures.facts) at c.choice-choice.ensures.inference in
    level_of s c.args.decision s.instance s.choice made s.goal first [] start c.finish.new.journal refl refl refl refl refl refl refl
    (advances_trans _ _ _ far c.finish.ensures.advances)
    facts.choice
    c.requires.above
    (λ done left. subst (λ (f : Facts). IsComplete f.instance f.choice → (plan : Plan) × IsPlanBelow f.instance f.choice s.goal plan) about
    (λ complete. c.in_ok-finish.ensures.found s.goal start (subst (λ (f : Facts). Begins f.instance f.choice s.goal start) (sym about) begins) far complete left) done)
