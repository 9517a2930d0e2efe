use Rattle.sentences.proofs.Listing.{next_more}
use Rattle.certificate_reasons.specs.Closers.{IsNameOf}
use Rattle.certificate_reasons.proofs.rings.names_of.Goals as goal

pub loop-p-preserved : goal.loop-p-preserved
loop-p-preserved c =
    next_more (IsNameOf c.args.instance.now) c.args.processes.now c.loop-p.p-index 0 c.loop-p.names.items c.push.new.self.items
    c.process_name.result c.loop-p-test.true c.loop-p.invariant c.process_name.ensures c.in_ok-push.ensures.items
