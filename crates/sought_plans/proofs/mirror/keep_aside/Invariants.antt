use Rattle.std.proofs.Common.{◌≡◌}
use Rattle.ttp_model.specs.Instance.{source_of}
use Rattle.ttp_model.specs.Lists.{EachBelow}
use Rattle.sought_plans.specs.Dominance.{KeepsAside}
use Rattle.sought_plans.proofs.mirror.keep_aside.Given as goal

abbrev pub invariant-loop-k : goal.invariant-loop-k
invariant-loop-k l = EachBelow l.k (λ k. source_of l.setting.instance k ≡ source_of l.setting.instance l.m → KeepsAside l.setting.choice l.known l.m k)
