-- How far a fact is known.
use Rattle.std.specs.Prelude.{ℕ, if◌then◌else◌}
use Rattle.sought_plans.specs.Known.{Known, es_of, le_of, lo_of, top_of, bef_of}
use Rattle.tt_infer.specs.declared.fact.Fact.{Fact}
pub use Rattle.tt_infer.specs.Table.{fact_of, target}
use Rattle.tt_infer.specs.declared.fact.Fact.TheVariants.{Start, End, FirstRound, LateRound, Order, Closed}

-- how far a fact is known: a time, a round, or whether it is
abbrev pub known_value : Known → Fact → ℕ
known_value f (Start p) = es_of f p
known_value f (End p) = le_of f p
known_value f (FirstRound m) = lo_of f m
known_value f (LateRound m) = top_of f m
known_value f (Order p q) = if bef_of f p q then 1 else 0
known_value f Closed = if f.closed then 1 else 0
