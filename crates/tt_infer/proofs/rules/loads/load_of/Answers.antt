use Rattle.std.proofs.Common.{length, arith}
use Rattle.std.proofs.lemmas.List.Sums.{sum_by_more}
use Rattle.ttp_model.specs.Network.{is_process_of}
use Rattle.ttp_model.proofs.Indices.{total_listed}
use Rattle.sought_plans.specs.Premises.{load_within}
use Rattle.sought_plans.proofs.Elsewhere.{load_elsewhere}
use Rattle.tt_infer.proofs.rules.loads.load_of.Goals as goal

pub loop-p-preserved : goal.loop-p-preserved
loop-p-preserved c =
    let more = sum_by_more (load_within c.args.instance.now c.args.known.now c.args.n c.args.a c.args.b) c.processes_on-p-items.result.now c.loop-p.p-index 0 c.loop-p-test.true in
    (omega (arith, more, c.loop-p.invariant.0, c.load_within-sum.ensures.value), omega (arith, c.loop-p.invariant.1, c.load_within-sum.ensures.bound))

pub returns : goal.returns
returns c =
    let i = c.args.instance.now in
    let f = c.args.known.now in
    total_listed (load_within i f c.args.n c.args.a c.args.b) (is_process_of i c.args.n) (length i.processes) _ c.loop-p.p-index c.loop-p.sum (load_elsewhere i f c.args.n c.args.a c.args.b) c.processes_on-p-items.ensures.value c.loop-p-test.false c.loop-p.invariant.0
