use Rattle.std.proofs.Common.{◌≡◌, map}
use Rattle.std.specs.List.{range_with_len}
use Rattle.ttp_model.specs.Lists.{greatest}
use Rattle.rates_model.specs.Rates.{chain_at}
use Rattle.endless_schedules.specs.Aging.{window_of}
use Rattle.endless_schedules.proofs.windows.greatest_window.Given as goal

abbrev pub invariant-loop-k : goal.invariant-loop-k
invariant-loop-k l = l.greatest ≡ greatest (map (window_of l.aging.rates.now (chain_at l.aging.rates.now l.aging.chain)) (range_with_len 0 l.k))
