-- One more demand is summed up, or begins too early.
use Rattle.std.proofs.Common.{◌≡◌, ◌-◌, ◌*◌, take, sum_by, max, slice_index_or, arith, inl, inr}
use Rattle.std.proofs.lemmas.List.Sums.{sum_by_more}
use Rattle.load_bounds.proofs.Intervals.{part_from, part_from_in, part_from_out, found, none_more, no_demand}
use Rattle.load_bounds.proofs.excess.excess_from.Goals as goal
use Rattle.load_bounds.proofs.excess.excess_from.Goals.{then-demand-from+else-sum-from, else-demand-from}

pub returns-then-sum-from : goal.returns-then-sum-from
returns-then-sum-from c =
    let ds = c.args.demands.now in
    let i = c.loop-demand.demand-index in
    let d = slice_index_or c.args.demands.now c.loop-demand.demand-index no_demand in
    let more = sum_by_more (part_from c.args.from) ds i no_demand c.loop-demand-test.true in
    let all = part_from_in c.args.from d c.if-demand-from.true in
    let sum : c.loop-demand.sum ≡ sum_by (part_from c.args.from) (take i ds) = c.loop-demand.invariant.sum in
    let room : (c.max-until.result - c.args.from) * c.args.rate ≡ c.from.result * c.from-then-demand-from.result = rw (c.from.ensures, c.from-then-demand-from.ensures) in
    found c.args.rate c.args.from c.max-until.result i ds no_demand c.requires.sorted c.loop-demand-test.true (omega arith) (omega arith) (omega (arith, c.if-sum-from.true, c.from-sum.ensures))

pub loop-demand-preserved : goal.loop-demand-preserved
loop-demand-preserved c =
    let ds = c.args.demands.now in
    let i = c.loop-demand.demand-index in
    let d = slice_index_or c.args.demands.now c.loop-demand.demand-index no_demand in
    let more = sum_by_more (part_from c.args.from) ds i no_demand c.loop-demand-test.true in
    let sum : c.loop-demand.sum ≡ sum_by (part_from c.args.from) (take i ds) = c.loop-demand.invariant.sum in
    elim c.if-demand-from.branch [
      | then-demand-from+else-sum-from w ↦
          let all = part_from_in c.args.from d w.if-demand-from.true in
          let room : (max c.args.from d.until - c.args.from) * c.args.rate ≡ w.from.result * w.from-then-demand-from.result = rw (w.from.ensures, w.from-then-demand-from.ensures, w.max-until.ensures) in
          record {
            small = omega (arith, w.from-sum.type_inv);
            sum = omega (arith, w.from-sum.ensures);
            none = none_more c.args.rate c.args.from i ds no_demand c.loop-demand-test.true c.loop-demand.invariant.none (inr (omega (arith, w.from-sum.ensures, w.if-sum-from.false)));
          }
      | else-demand-from w ↦
          let nothing = part_from_out c.args.from d w.if-demand-from.false in
          record {
            small = omega arith;
            sum = omega arith;
            none = none_more c.args.rate c.args.from i ds no_demand c.loop-demand-test.true c.loop-demand.invariant.none (inl w.if-demand-from.false);
          }
    ]
