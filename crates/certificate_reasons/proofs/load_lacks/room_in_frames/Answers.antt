use Rattle.std.proofs.Common.{ℕ, ◌*◌, ◌^◌, ◌<◌, ◌≤◌, arith, mul-le-mul}
use Rattle.ttp_model.specs.Limits.{most_bytes, most_channels}
use Rattle.ttp_model.specs.declared.error.Place.TheVariants.{AtCluster}
use Rattle.certificate_reasons.proofs.load_lacks.room_in_frames.Goals as goal

fits : (channels rounds cap : ℕ) → channels ≤ most_channels → rounds ≤ 4294967295 → cap ≤ most_bytes → channels * (rounds * cap) < 2 ^ 64
fits channels rounds cap few short small =
    let bytes = mul-le-mul {n₁ = rounds} {m₁ = cap} {n₂ = 4294967295} {m₂ = most_bytes} short small in
    omega (arith, mul-le-mul {n₁ = channels} {m₁ = rounds * cap} {n₂ = most_channels} {m₂ = 4294967295 * most_bytes} few bytes)

pub overflow_mul-result : goal.overflow_mul-result
overflow_mul-result c =
    let channels : c.cluster.result.now.channels ≤ most_channels = rw c.cluster.ensures.value (c.cluster.ensures.instance.ranges AtCluster).channels in
    omega (
      arith,
      fits c.from-channels.result c.from-rounds.result c.from-capacity.result (omega (arith, channels, c.from-channels.ensures))
          (omega (arith, c.from-rounds.ensures, c.saturating_sub.ensures, c.ranges.b.fits)) (omega (arith, c.from-capacity.ensures, c.cap_most.ensures.bound)),
    )
