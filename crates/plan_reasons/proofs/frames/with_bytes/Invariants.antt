use Rattle.std.proofs.Common.{take}
use Rattle.sentences.specs.Lists.{AreTold}
use Rattle.plan_reasons.specs.Frames.{IsFrameMessage}
use Rattle.plan_reasons.proofs.frames.with_bytes.Given as goal

abbrev pub invariant-loop-m : goal.invariant-loop-m
invariant-loop-m l = AreTold (IsFrameMessage l.instance) (take l.m-index l.messages) l.items.items
