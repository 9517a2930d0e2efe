use Rattle.std.proofs.Common.{◌≡◌, ℕ, ◌-◌, arith, length, ap, subst}
use Rattle.ttp_model.specs.Lists.{EachBelow}
use Rattle.tt_settle.specs.Settling.{RestAsTwins, RestsAmongTwins}
use Rattle.tt_settle.proofs.Trying.{tried_valid, tried_as, tried_more}
use Rattle.tt_settle.proofs.swaps.order_twins_of.Goals as goal

pub order_pair-next-requires-clause-valid : goal.order_pair-next-requires-clause-valid
order_pair-next-requires-clause-valid c = tried_valid c.args.instance.now c.args.plan (λ r. EachBelow c.loop-k.k (λ j. RestAsTwins c.args.instance.now r c.args.p (length c.processes.result.now - 1 - j))) c.loop-k.plan c.loop-k.moved c.requires.valid c.loop-k.invariant

pub loop-k-preserved : goal.loop-k-preserved
loop-k-preserved c = tried_more c.args.instance.now c.args.plan (λ r j. RestAsTwins c.args.instance.now r c.args.p (length c.processes.result.now - 1 - j)) c.loop-k.k c.loop-k.plan c.order_pair-next.result.0 c.loop-k.moved c.order_pair-next.result.1 c.loop-k.invariant c.order_pair-next.ensures

pub returns : goal.returns
returns c =
    let all : length c.processes.result.now ≡ length c.args.instance.now.processes = ap length c.processes.ensures.value in
    tried_as c.args.instance.now c.args.plan (λ r. EachBelow c.loop-k.k (λ j. RestAsTwins c.args.instance.now r c.args.p (length c.processes.result.now - 1 - j))) (λ r. RestsAmongTwins c.args.instance.now r c.args.p) c.loop-k.plan c.loop-k.moved (λ each q later inside.
    let back : length c.processes.result.now - 1 - (length c.processes.result.now - 1 - q) ≡ q = omega (arith, all, inside) in
    subst (λ (n : ℕ). RestAsTwins c.args.instance.now c.loop-k.plan c.args.p n) back (each (length c.processes.result.now - 1 - q) (omega (arith, all, inside, later, c.loop-k-test.false)))) c.loop-k.invariant
