use Rattle.std.proofs.Common.{filter}
use Rattle.std.specs.List.{range_with_len}
use Rattle.sentences.specs.Lists.{AreTold}
use Rattle.instance_reasons.specs.Described.{IsLargeMessage, is_large}
use Rattle.instance_reasons.proofs.described.large_messages.Given as goal

abbrev pub invariant-loop-m : goal.invariant-loop-m
invariant-loop-m l = AreTold (IsLargeMessage l.instance) (filter (is_large l.instance) (range_with_len 0 l.m)) l.told.items
