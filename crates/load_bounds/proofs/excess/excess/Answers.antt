-- No interval from the beginning of a demand gets too much, so none does; and the order of demands doesn't matter.
use Rattle.std.proofs.Common.{◌≡◌, arith, sym, subst, List}
use Rattle.load_bounds.specs.declared.demands.Demand.{Demand}
use Rattle.load_bounds.specs.Within.{IsExcess}
use Rattle.load_bounds.proofs.Intervals.{none_at_all, any_order_back, no_demand}
use Rattle.load_bounds.proofs.excess.excess.Goals as goal

pub returns : goal.returns
returns c a b e =
    let sorted = c.as_slice-sorted.result.now in
    let value : c.as_slice-sorted.result.now ≡ c.sort.new.self = c.as_slice-sorted.ensures.value in
    let P : List Demand → Type 0 = λ ds. IsExcess c.args.rate ds a b in
    none_at_all c.args.rate sorted no_demand (λ k b lt. c.loop-demand.invariant no_demand k b (omega arith)) a b (subst P (sym value) (any_order_back c.args.rate c.args.demands.now c.sort.new.self a b c.sort.ensures.same e))
