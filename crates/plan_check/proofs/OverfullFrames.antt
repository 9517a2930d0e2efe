-- How an overfull frame is told: by node and round, and by the channel too where there are two.
use Rattle.std.proofs.Common.{◌≡◌, ◌≢◌, ℕ, length, refl, subst, arith}
use Rattle.ttp_model.specs.declared.error.Place.TheVariants.{AtCluster}
use Rattle.ttp_model.specs.declared.plan.Plan.{Plan}
use Rattle.ttp_model.specs.declared.fault.PlanFault.TheVariants.{Overfull, OverfullOn}
use Rattle.ttp_model.specs.Lists.{IsFirstFailure}
use Rattle.ttp_model.specs.Instance.{Instance, source_of}
use Rattle.ttp_model.specs.Rules.{IsInstance}
use Rattle.ttp_model.specs.Plans.{Frames, FitsFrame, FitsOn, round_of}
use Rattle.ttp_model.specs.Faults.{IsFirstFault, IsFirstOverfull, KeepsBefore}

module _ (i : Instance) (plan : Plan) (m c : ℕ) (before : KeepsBefore i plan Frames) (first : IsFirstFailure (length i.messages) (FitsFrame i plan) m) (channel : IsFirstFailure i.cluster.channels (FitsOn i plan m) c) where
  -- the fault, where the cluster has so many channels
  overfull_of : (channels : ℕ) → i.cluster.channels ≡ channels → IsFirstOverfull i plan channels (source_of i m) (round_of plan m) c
  overfull_of channels are = record {
    cluster = are;
    message = m;
    first = first;
    channel = subst (λ (count : ℕ). IsFirstFailure count (FitsOn i plan m) c) are channel;
    node = refl;
    round = refl;
  }

  pub told_of_one : i.cluster.channels ≡ 1 → IsFirstFault i plan (Overfull (source_of i m) (round_of plan m))
  told_of_one one =
      let zeroth : c ≡ 0 = omega (arith, channel.within, one) in
      (before, subst (λ (k : ℕ). IsFirstOverfull i plan 1 (source_of i m) (round_of plan m) k) zeroth (overfull_of 1 one))

  pub told_of_two : IsInstance i → i.cluster.channels ≢ 1 → IsFirstFault i plan (OverfullOn (source_of i m) (round_of plan m) c)
  told_of_two w more =
      let two : i.cluster.channels ≡ 2 = omega (arith, more, (w.ranges AtCluster).channels_least, (w.ranges AtCluster).channels) in
      (before, overfull_of 2 two)
