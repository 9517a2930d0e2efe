use Rattle.std.proofs.Common.{◌≡◌, ◌==◌, arith}
use Rattle.std.proofs.lemmas.List.{length_push}
use Rattle.plan_cycles.proofs.RoundSums.{known_more, none_tells, sums_of_none}
use Rattle.plan_cycles.proofs.sums.without_nodes.Goals as goal

pub loop-bytes-preserved : goal.loop-bytes-preserved
loop-bytes-preserved c =
    let before = c.loop-bytes.sums.items in
    let bytes = c.loop-bytes.bytes in
    rw c.in_ok-push.ensures.items (record {
      all = omega (arith, length_push before (bytes == 0), c.loop-bytes.invariant.all);
      each = known_more (λ k. k ≡ 0) before bytes (bytes == 0) c.loop-bytes.invariant.all c.loop-bytes.invariant.each (none_tells bytes);
    })

pub returns : goal.returns
returns c =
    let all : c.loop-bytes.bytes ≡ 32001 = omega (arith, c.loop-bytes-test.false, c.loop-bytes.auto.bytes-end) in
    let known = rw all at c.loop-bytes.invariant in
    sums_of_none c.loop-bytes.sums.items known.all known.each
