use Rattle.std.proofs.Common.{◌≡◌, drop, reverse, take}
use Rattle.certificate_reasons.specs.Heights.{highest}
use Rattle.certificate_reasons.proofs.depth.take_highest.Given as goal

abbrev pub invariant-loop-k : goal.invariant-loop-k
invariant-loop-k l = record {
  greatest : l.greatest ≡ highest (take l._k (reverse l.initial.heights.items));
  rest : reverse l.heights.items ≡ drop l._k (reverse l.initial.heights.items);
}
