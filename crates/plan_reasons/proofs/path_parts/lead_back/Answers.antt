use Rattle.std.proofs.Common.{Some}
use Rattle.plan_reasons.proofs.PathFalling.{falls}
use Rattle.plan_reasons.proofs.PathLeading.{no_more}
use Rattle.plan_reasons.proofs.path_parts.lead_back.Goals as goal

pub back-smaller : goal.back-smaller
back-smaller c =
    rw (c.held_by-next.ensures.process, c.in-Some.is, ← c.part_of-part.ensures.process)
    (falls c.args.instance.now c.args.ends.now c.nodes-nodes.ensures.instance c.part_of-part.result c.part_of-part.ensures.part)

pub returns : goal.returns
returns c = record {
  ends = c.args.ends.now;
  longest = c.requires.longest;
  last = c.last_of-last.result;
  ends_last = c.last_of-last.ensures;
  leads_back = no_more c.args.instance.now c.args.ends.now (Some c.last_of-last.result) c.back.next c.back.parts.items
      c.back.invariant.leads c.in_default.is;
}
