use Rattle.std.proofs.Common.{◌≡◌, ◌++◌, ◌==◌, map, filter, not}
use Rattle.std.specs.List.{range_with_len}
use Rattle.membership_replay.specs.Trace.{row_at}
use Rattle.plan_commands.specs.LossWords.{loss_at}
use Rattle.plan_commands.proofs.losses.push_receivers.Given as goal

abbrev pub invariant-loop-n : goal.invariant-loop-n
invariant-loop-n l =
    l.losses.items ≡ l.initial.losses.items ++ map (loss_at l.word) (filter (λ n. not (n == (row_at l.medl 0 l.word.slot).sender)) (range_with_len 0 l.n))
