use Rattle.std.proofs.Common.{Some, ap, sym, ◌∙◌}
use Rattle.plan_reasons.specs.declared.plan_links.Subject.TheVariants.{Process}
use Rattle.plan_reasons.proofs.PlanFalling.{falls}
use Rattle.plan_reasons.proofs.PlanLeading.{no_more, one_more}
use Rattle.plan_reasons.proofs.plan_links.lead_back.Goals as goal

pub back-init : goal.back-init
back-init c = record { inside = c.requires.inside; leads = λ rest more. rw c.requires.none more }

pub back-preserved : goal.back-preserved
back-preserved c =
    let i = c.args.instance.now in
    let plan = c.args.plan.now in
    let link = c.link_of-link.result in
    let next = c.in-Some.is ∙ ap Some (sym c.link_of-link.ensures.subject) in
    record {
      inside = c.held_by-next.ensures.inside;
      leads = λ rest more. rw c.in_ok-push.ensures.items (one_more i plan (Some (Process c.args.last)) c.back.next c.back.links.items link
          c.back.invariant.leads next c.link_of-link.ensures.link rest (rw c.held_by-next.ensures.subject at more));
    }

pub back-smaller : goal.back-smaller
back-smaller c =
    rw (c.held_by-next.ensures.subject, c.in-Some.is, ← c.link_of-link.ensures.subject)
    (falls c.args.instance.now c.args.plan.now c.nodes-nodes.ensures.instance c.requires.valid c.link_of-link.result c.link_of-link.ensures.link)

pub returns : goal.returns
returns c = no_more c.args.instance.now c.args.plan.now (Some (Process c.args.last)) c.back.next c.back.links.items c.back.invariant.leads c.in_default.is
