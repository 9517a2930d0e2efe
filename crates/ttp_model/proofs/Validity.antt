-- Whether a plan is valid, and whether things are twins, can be told.
use Rattle.std.proofs.Common.{◌≡◌, ◌≢◌, ℕ, ◌<◌, ◌≤◌, ◌⊎◌, List, length, slice_index, Contains, IsTrue}
use Rattle.ttp_model.specs.declared.plan.Plan.{Plan}
use Rattle.ttp_model.specs.Limits.{both_channels}
use Rattle.ttp_model.specs.Lists.{EachBelow}
use Rattle.ttp_model.specs.Instance.{Instance, node_at, message_at, node_of}
use Rattle.ttp_model.specs.Plans.{IsValid, HasLengths, HasOrderLength, HasCapacitiesLength, HasStartsLength, HasRoundsLength, HasChannelsLength, IsNewNode, IsNodeOrder, HasOwnCapacity, IsReleased, EndsInTime, EndsBefore, AreApart, IsApartFromLater, KeepsLink, IsReady, HasArrivedAt, HasArrivedEverywhere, FitsOn, FitsFrame, MayBeOn, HasOwnChannel, channel_of}
use Rattle.ttp_model.proofs.Decide.{Decision, like, both, one_of, implied, refuted, equal, below, at_most, is_true, each_below, contained}

module _ (i : Instance) (plan : Plan) where
  lengths : Decision (HasLengths i plan)
  lengths = like (((HasOrderLength i plan × HasCapacitiesLength i plan) × (HasStartsLength i plan × HasRoundsLength i plan)) × HasChannelsLength i plan) (HasLengths i plan)
      (λ all. record { order = all.0.0.0; capacities = all.0.0.1; starts = all.0.1.0; rounds = all.0.1.1; channels = all.1 })
      (λ all. (((all.order, all.capacities), (all.starts, all.rounds)), all.channels))
      (both _ _ (both _ _ (both _ _ (equal _ _) (equal _ _)) (both _ _ (equal _ _) (equal _ _))) (equal _ _))

  new_node : (count : ℕ) (order : List ℕ) (k : ℕ) → Decision (IsNewNode count order k)
  new_node count order k = like ((slice_index order k < count) × ((j : ℕ) → j < k → slice_index order j ≢ slice_index order k)) (IsNewNode count order k)
      (λ all. record { node = all.0; first = all.1 })
      (λ all. (all.node, all.first))
      (both _ _ (below _ _) (each_below (λ j. slice_index order j ≢ slice_index order k) k (λ j. refuted _ (equal _ _))))

  node_order : (count : ℕ) (order : List ℕ) → Decision (IsNodeOrder count order)
  node_order count order = like ((length order ≡ count) × EachBelow count (IsNewNode count order)) (IsNodeOrder count order)
      (λ all. record { all = all.0; each = all.1 })
      (λ all. (all.all, all.each))
      (both _ _ (equal _ _) (each_below (IsNewNode count order) count (new_node count order)))

  own_capacity : (n : ℕ) → Decision (HasOwnCapacity i plan.caps n)
  own_capacity n = like (Contains (node_at i n).capacities (slice_index plan.caps n)) (HasOwnCapacity i plan.caps n)
      (λ own. record { own = own })
      (λ has. has.own)
      (contained _ _)

  apart : (p q : ℕ) → Decision (AreApart i plan p q)
  apart p q = implied (node_of i p ≡ node_of i q) (EndsBefore i plan p q ⊎ EndsBefore i plan q p) (equal _ _) (one_of _ _ (at_most _ _) (at_most _ _))

  apart_from_later : (p : ℕ) → Decision (IsApartFromLater i plan p)
  apart_from_later p = like ((q : ℕ) → q < length i.processes → p < q → AreApart i plan p q) (IsApartFromLater i plan p)
      (λ each q later inside. each q inside later)
      (λ each q inside later. each q later inside)
      (each_below (λ q. p < q → AreApart i plan p q) (length i.processes) (λ q. implied _ _ (below _ _) (apart p q)))

  arrived_everywhere : (m : ℕ) → Decision (HasArrivedEverywhere i plan m)
  arrived_everywhere m = each_below (HasArrivedAt i plan m) (length (message_at i m).receivers) (λ k. at_most _ _)

  fits_frame : (m : ℕ) → Decision (FitsFrame i plan m)
  fits_frame m = each_below (FitsOn i plan m) i.cluster.channels (λ c. implied _ _ (is_true _) (at_most _ _))

  may_be_on : (m k : ℕ) → Decision (MayBeOn i m k)
  may_be_on m k = like ((k ≤ both_channels) × ((i.cluster.channels ≡ 1 → k ≡ 0) × (IsTrue (message_at i m).both → k ≡ both_channels))) (MayBeOn i m k)
      (λ all. record { known = all.0; alone = all.1.0; both = all.1.1 })
      (λ all. (all.known, (all.alone, all.both)))
      (both _ _ (at_most k both_channels) (both _ _ (implied (i.cluster.channels ≡ 1) (k ≡ 0) (equal _ _) (equal _ _)) (implied (IsTrue (message_at i m).both) (k ≡ both_channels) (is_true _) (equal _ _))))

  -- the rules on the lists and on the times of each process
  alone : Decision (((HasLengths i plan × IsNodeOrder (length i.nodes) plan.order) × EachBelow (length i.nodes) (HasOwnCapacity i plan.caps)) × (EachBelow (length i.processes) (IsReleased i plan) × EachBelow (length i.processes) (EndsInTime i plan)))
  alone = both _ _
      (both _ _ (both _ _ lengths (node_order (length i.nodes) plan.order)) (each_below (HasOwnCapacity i plan.caps) (length i.nodes) own_capacity))
      (both _ _ (each_below (IsReleased i plan) (length i.processes) (λ p. at_most _ _)) (each_below (EndsInTime i plan) (length i.processes) (λ p. both _ _ (at_most _ _) (at_most _ _))))

  -- those on processes and links, and on messages
  together : Decision ((EachBelow (length i.processes) (IsApartFromLater i plan) × EachBelow (length i.links) (KeepsLink i plan)) × ((EachBelow (length i.messages) (IsReady i plan) × EachBelow (length i.messages) (HasArrivedEverywhere i plan)) × (EachBelow (length i.messages) (FitsFrame i plan) × EachBelow (length i.messages) (HasOwnChannel i plan))))
  together = both _ _
      (both _ _ (each_below (IsApartFromLater i plan) (length i.processes) apart_from_later) (each_below (KeepsLink i plan) (length i.links) (λ l. at_most _ _)))
      (both _ _ (both _ _ (each_below (IsReady i plan) (length i.messages) (λ m. at_most _ _)) (each_below (HasArrivedEverywhere i plan) (length i.messages) arrived_everywhere)) (both _ _ (each_below (FitsFrame i plan) (length i.messages) fits_frame) (each_below (HasOwnChannel i plan) (length i.messages) (λ m. may_be_on m (channel_of plan m)))))

  -- a plan is valid or it isn't
  pub valid_or_not : Decision (IsValid i plan)
  valid_or_not = like _ (IsValid i plan)
      (λ all. record { lengths = all.0.0.0.0; order = all.0.0.0.1; capacities = all.0.0.1; released = all.0.1.0; in_time = all.0.1.1; apart = all.1.0.0; links = all.1.0.1; ready = all.1.1.0.0; arrived = all.1.1.0.1; frames = all.1.1.1.0; on_own = all.1.1.1.1 })
      (λ v. ((((v.lengths, v.order), v.capacities), (v.released, v.in_time)), ((v.apart, v.links), ((v.ready, v.arrived), (v.frames, v.on_own)))))
      (both _ _ alone together)
