use Rattle.std.proofs.Common.{◌≡◌, ◌<◌, All, filter, length}
use Rattle.std.specs.List.{range_with_len}
use Rattle.ttp_model.specs.Plans.{is_in_frame_on}
use Rattle.plan_facts.proofs.frames.messages_on.Given as goal

abbrev pub invariant-loop-m : goal.invariant-loop-m
invariant-loop-m l = record {
  list : l.messages.items ≡ filter (is_in_frame_on l.instance l.plan l.n l.r l.c) (range_with_len 0 l.m);
  inside : All (λ m. m < length l.instance.messages) l.messages.items;
}
