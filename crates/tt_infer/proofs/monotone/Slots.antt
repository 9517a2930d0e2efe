-- Inside a choice the slots of a message's node have times and sizes between the choice's.
use Rattle.std.proofs.Common.{ℕ, ◌<◌, ◌≤◌, length, arith}
use Rattle.ttp_model.specs.Instance.{source_of}
use Rattle.tt_choice.specs.Extremes.{start_least, start_most, end_least, end_most, cap_least, cap_most, dur_least}
use Rattle.tt_choice.proofs.Bounds.{start_most_later, end_least_later, end_most_later}
use Rattle.tt_choice.proofs.Inside.{start_least_rises, start_most_falls, end_least_rises, end_most_falls, cap_least_rises, cap_most_falls, dur_least_rises}
use Rattle.tt_infer.proofs.Sending.{source_is}
use Rattle.tt_infer.proofs.monotone.Nested.{Nested}

module _ (s : Nested) (m : ℕ) (there : m < length s.instance.messages) where
  pub start_least_up : (r : ℕ) → start_least s.instance s.outer (source_of s.instance m) r ≤ start_least s.instance s.inner (source_of s.instance m) r
  start_least_up r = start_least_rises s.instance s.inner s.outer s.is_instance s.is_inner_choice s.is_choice s.inside (source_of s.instance m) (source_is s.instance m s.is_instance there) r

  pub start_most_down : (r q : ℕ) → q ≤ r → start_most s.instance s.inner (source_of s.instance m) q ≤ start_most s.instance s.outer (source_of s.instance m) r
  start_most_down r q le =
      let falls = start_most_falls s.instance s.inner s.outer s.is_instance s.is_inner_choice s.is_choice s.inside (source_of s.instance m) (source_is s.instance m s.is_instance there) q in
      omega (arith, falls, start_most_later s.instance s.outer (source_of s.instance m) q r le)

  pub end_least_up : (r q : ℕ) → r ≤ q → end_least s.instance s.outer (source_of s.instance m) r ≤ end_least s.instance s.inner (source_of s.instance m) q
  end_least_up r q le =
      let rises = end_least_rises s.instance s.inner s.outer s.is_instance s.is_inner_choice s.is_choice s.inside (source_of s.instance m) (source_is s.instance m s.is_instance there) q in
      omega (arith, rises, end_least_later s.instance s.outer (source_of s.instance m) r q le)

  pub end_most_down : (r q : ℕ) → q ≤ r → end_most s.instance s.inner (source_of s.instance m) q ≤ end_most s.instance s.outer (source_of s.instance m) r
  end_most_down r q le =
      let falls = end_most_falls s.instance s.inner s.outer s.is_instance s.is_inner_choice s.is_choice s.inside (source_of s.instance m) (source_is s.instance m s.is_instance there) q in
      omega (arith, falls, end_most_later s.instance s.outer (source_of s.instance m) q r le)

  pub dur_least_up : dur_least s.instance s.outer (source_of s.instance m) ≤ dur_least s.instance s.inner (source_of s.instance m)
  dur_least_up = dur_least_rises s.instance s.inner s.outer s.is_instance s.is_inner_choice s.is_choice s.inside (source_of s.instance m) (source_is s.instance m s.is_instance there)

  pub cap_least_up : cap_least s.instance s.outer (source_of s.instance m) ≤ cap_least s.instance s.inner (source_of s.instance m)
  cap_least_up = cap_least_rises s.instance s.inner s.outer s.is_instance s.is_inner_choice s.is_choice s.inside (source_of s.instance m) (source_is s.instance m s.is_instance there)

  pub cap_most_down : cap_most s.instance s.inner (source_of s.instance m) ≤ cap_most s.instance s.outer (source_of s.instance m)
  cap_most_down = cap_most_falls s.instance s.inner s.outer s.is_instance s.is_inner_choice s.is_choice s.inside (source_of s.instance m) (source_is s.instance m s.is_instance there)
