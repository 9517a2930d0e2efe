use Rattle.std.proofs.Common.{◌≡◌, ℕ, ◌<◌, Contains}
use Rattle.ttp_model.specs.Instance.{message_at}
use Rattle.sought_plans.proofs.ahead.has_message.Given as goal

abbrev pub invariant-loop-m : goal.invariant-loop-m
invariant-loop-m l = (k : ℕ) → k < l.m → (message_at l.instance k).sender ≡ l.p → Contains (message_at l.instance k).receivers l.q → ⊥
