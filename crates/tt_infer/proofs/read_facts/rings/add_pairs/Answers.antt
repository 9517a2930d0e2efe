use Rattle.std.proofs.Common.{◌≡◌, ◌-◌, length, arith}
use Rattle.tt_infer.specs.Added.{OrdersNext}
use Rattle.tt_infer.proofs.AddedFacts.{adds_all, adds_first, adds_more}
use Rattle.tt_infer.proofs.read_facts.rings.add_pairs.Goals as goal

pub loop-k-init : goal.loop-k-init
loop-k-init c = adds_first (OrdersNext c.args.instance.now c.args.ring.now) _

pub loop-k-preserved : goal.loop-k-preserved
loop-k-preserved c = adds_more (OrdersNext c.args.instance.now c.args.ring.now) c.loop-k.k _ _ _ c.loop-k.invariant c.in_ok-add_pair.ensures

pub returns : goal.returns
returns c =
    let all : length c.args.ring.now - 1 ≡ c.loop-k.k = omega (arith, c.loop-k.auto.k-end, c.loop-k-test.false) in
    adds_all (OrdersNext c.args.instance.now c.args.ring.now) _ _ _ _ all c.loop-k.invariant
