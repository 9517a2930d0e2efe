use Rattle.std.proofs.Common.{◌≢◌, sym, ◌∙◌, subst}
use Rattle.tt_infer.specs.Leaves.{LeadSharply}
use Rattle.planner.proofs.SharpSteps.{one_more}
use Rattle.planner.proofs.sharp.keep_sharp.Goals as goal

pub returns-then-not-says_more-clause-kept : goal.returns-then-not-says_more-clause-kept
returns-then-not-says_more-clause-kept c = λ f g next lead.
    let s = c.args.facts.now in
    let same = c.says_more.ensures.same c.if-not-says_more.true in
    subst (LeadSharply s.instance s.choice s.goal f c.args.kept.now.items) (sym same ∙ c.says_more.ensures.next g next) lead

pub returns-clause-kept : goal.returns-clause-kept
returns-clause-kept c = λ f g next lead.
    let s = c.args.facts.now in
    let more : g ≢ s.known = λ same. c.says_more.ensures.more c.if-not-says_more.false (c.says_more.ensures.next g next ∙ same) in
    rw (c.in_ok-push.ensures.items, c.in_ok-copy.ensures) (one_more s c.args.kept.now.items c.args.step.now f g next more lead)
