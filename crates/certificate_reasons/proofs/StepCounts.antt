-- How many steps there are with those of one node more.
use Rattle.std.proofs.Common.{◌≡◌, ℕ, ◌+◌, ◌-◌, ◌^◌, ◌<◌, List, ap, arith, length, min, slice_index_or, sym, take}
use Rattle.std.proofs.lemmas.List.Sums.{sum_by_more}
use Rattle.certificate.specs.declared.node.Node.{Node}
use Rattle.certificate_reasons.specs.Sizes.{step_count, told_steps}

pub told_more : (nodes : List Node) (k : ℕ) (node : Node) → k < length nodes → node ≡ slice_index_or nodes k node
    → told_steps (take (k + 1) nodes) ≡ min (told_steps (take k nodes) + step_count node) (2 ^ 64 - 1)
told_more nodes k node inside here =
    let more = sum_by_more step_count nodes k node inside in
    let one : step_count (slice_index_or nodes k node) ≡ step_count node = ap step_count (sym here) in
    omega (arith, more, one)
