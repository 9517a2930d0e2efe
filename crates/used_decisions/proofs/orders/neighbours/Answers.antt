use Rattle.std.proofs.Common.{◌+◌, slice_index, arith, inl, inr}
use Rattle.std.proofs.lemmas.Bool.{cases_eq}
use Rattle.used_decisions.proofs.OrdersRead.{pair_more}
use Rattle.used_decisions.proofs.Tells.{more_none, more_twice, read_more}
use Rattle.used_decisions.proofs.orders.neighbours.Goals as goal

pub loop-k-init : goal.loop-k-init
loop-k-init c = record { more = more_none c.args.uses.now; told = λ read j below. absurd (omega (arith, below)) }

pub loop-k-preserved : goal.loop-k-preserved
loop-k-preserved c =
    let path = c.args.path.now in
    let ring = c.args.ring.now in record {
      more = more_twice c.args.uses.now c.loop-k.uses c.ahead.new.uses c.loop-k.invariant.more c.ahead.ensures.more;
      told = λ read j below. elim (cases_eq j c.loop-k.k) [
        | inl same ↦ rw same (c.ahead.ensures.told (read_more path c.args.uses.now c.loop-k.uses c.loop-k.invariant.more read))
        | inr other ↦ pair_more path c.args.given.now c.loop-k.uses c.ahead.new.uses (slice_index ring j) (slice_index ring (j + 1)) c.ahead.ensures.more
            (c.loop-k.invariant.told read j (omega (arith, below, other)))
      ];
    }

pub returns : goal.returns
returns c = record { more = c.loop-k.invariant.more; told = λ read k inside. c.loop-k.invariant.told read k (omega (arith, inside, c.loop-k-test.false)) }
