use Rattle.std.proofs.Common.{◌≡◌, not, filter, map}
use Rattle.std.specs.List.{range_with_len}
use Rattle.tt_choice.specs.declared.decision.Decision.TheVariants as decided
use Rattle.tt_choice.specs.Branches.{is_placed}
use Rattle.tt_choice.proofs.choice.Choice.places.Given as goal

abbrev pub invariant-loop-n : goal.invariant-loop-n
invariant-loop-n l = l.decisions.items ≡ map decided.Place (filter (λ n. not (is_placed l.self n)) (range_with_len 0 l.n-counter))
