use Rattle.std.proofs.Common.{◌<◌, length, arith, ap, ◌∙◌}
use Rattle.ttp_model.specs.declared.parts.Process.{Process}
use Rattle.plan_facts.proofs.Walks.{end_small, link_followed}
use Rattle.plan_facts.proofs.chains.follow_links.Goals as goal

pub overflow_add-end : goal.overflow_add-end
overflow_add-end c =
    let end = end_small c.args.instance.now c.links-l-end.ensures.instance c.loop-l.ends.items c.link_at-link.result.before c.index-end.result.now
    c.loop-l.invariant.chains c.link_at-link.ensures.before c.index-end.ensures in
    omega (arith, end.0, c.from.ensures, c.process_at.ensures.times.wcet)

pub loop-l-preserved : goal.loop-l-preserved
loop-l-preserved c =
    let inside : c.loop-l.l < length c.args.instance.now.links = omega (arith, ap length c.links-l-end.ensures.value, c.loop-l-test.true) in
    let end = end_small c.args.instance.now c.links-l-end.ensures.instance c.loop-l.ends.items c.link_at-link.result.before c.index-end.result.now
    c.loop-l.invariant.chains c.link_at-link.ensures.before c.index-end.ensures in
    let done = link_followed c.args.instance.now c.links-l-end.ensures.instance c.args.ends.now.items c.loop-l.ends.items c.raise.new.ends.items c.loop-l.l
    c.link_at-link.result c.index-end.result.now c.from.result inside c.link_at-link.ensures.value c.loop-l.invariant.chains c.loop-l.invariant.kept
    c.loop-l.invariant.reach end.1 (c.from.ensures ∙ ap (λ (p : Process). p.wcet) c.process_at.ensures.value) c.raise.ensures in
    record { chains = done.0; kept = done.1; reach = done.2 }
