use Rattle.search_core.proofs.worker.Worker.work.Goals as goal

pub outcome-node-requires : goal.outcome-node-requires
outcome-node-requires c = (c.args.self.now.seen, c.in_ok-name.ensures.fits)
