use Rattle.std.proofs.Common.{◌∙◌, arith}
use Rattle.endless_schedules.specs.Unrolled.{link_to}
use Rattle.endless_schedules.proofs.Lists.{map_more}
use Rattle.endless_schedules.proofs.Pieces.{links_done, links_none}
use Rattle.endless_schedules.proofs.links.push_links.Goals as goal

pub returns-then-link-ne0 : goal.returns-then-link-ne0
returns-then-link-ne0 c = links_none c.args.rates.now _ c.args.link c.if-link-ne0.true

pub loop-j-preserved : goal.loop-j-preserved
loop-j-preserved c = rw (c.in_ok-push.ensures.items, c.loop-j.invariant, c.link_to.ensures) (map_more _ (link_to c.args.rates.now c.args.link) c.loop-j.j)

pub returns : goal.returns
returns c = c.loop-j.invariant ∙ links_done c.args.rates.now _ c.args.link c.loop-j.j (omega arith) (omega arith)
