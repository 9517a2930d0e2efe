-- The choice in which nothing is chosen: it has each valid plan.
use Rattle.std.proofs.Common.{◌≡◌, ◌≢◌, ℕ, ◌-◌, ◌*◌, ◌<◌, ◌≤◌, length, slice_index, true, false, None, Some, IsFalse, arith, inl, inr, refl, subst, sym}
use Rattle.std.proofs.lemmas.Bool.{cases_Bool, cases_eq, eq-eqb, ne_eqb, both_ways}
use Rattle.std.proofs.lemmas.List.{length-replicate, get_or-replicate}
use Rattle.std.proofs.lemmas.List.FromFn.{length-map-range_with_len, get_or-map-range_with_len}
use Rattle.ttp_model.specs.declared.plan.Plan.{Plan}
use Rattle.ttp_model.specs.declared.error.Place.TheVariants.{AtCluster}
use Rattle.ttp_model.specs.Instance.{Instance, message_at}
use Rattle.ttp_model.specs.Limits.{both_channels}
use Rattle.ttp_model.specs.Lists.{EachBelow}
use Rattle.ttp_model.specs.Rules.{IsInstance, HasChannels}
use Rattle.ttp_model.specs.Plans.{IsValid, MayBeOn, channel_of}
use Rattle.tt_choice.specs.Choice.{fixed_cap, fixed_channel, IsFixedTo, IsChannel, IsIn, IsChoice}
use Rattle.tt_choice.specs.Branches.{root_channel, root_choice}
use Rattle.ttp_model.proofs.PlanNumbers.{round_below_horizon}
use Rattle.tt_choice.proofs.Before.{nothing_goes}

horizon_some : (i : Instance) → IsInstance i → 0 < i.cluster.horizon
horizon_some i w = omega (arith, (w.ranges AtCluster).horizon_least)

none_fixed : (i : Instance) (n : ℕ) → n < length i.nodes → fixed_cap (root_choice i) n ≡ None
none_fixed i n h = get_or-replicate (length i.nodes) n None None h

first_round : (i : Instance) (m : ℕ) → m < length i.messages → slice_index (root_choice i).lo m ≡ 0
first_round i m h = get_or-replicate (length i.messages) m 0 0 h

last_round : (i : Instance) (m : ℕ) → m < length i.messages → slice_index (root_choice i).hi m ≡ i.cluster.horizon - 1
last_round i m h = get_or-replicate (length i.messages) m (i.cluster.horizon - 1) 0 h

-- a message's channel: the only one, both where it is to be on both, and none else
pub channel_of_root : (i : Instance) (m : ℕ) → m < length i.messages → fixed_channel (root_choice i) m ≡ root_channel i m
channel_of_root i m h = get_or-map-range_with_len (root_channel i) 0 (length i.messages) m m None h (omega arith)

only_at_root : (i : Instance) (m : ℕ) → i.cluster.channels ≡ 1 → root_channel i m ≡ Some 0
only_at_root i m alone = rw (eq-eqb _ _ alone) refl

both_at_root : (i : Instance) (m : ℕ) → i.cluster.channels ≢ 1 → (message_at i m).both ≡ true → root_channel i m ≡ Some both_channels
both_at_root i m several both = rw (ne_eqb _ _ several, both) refl

none_at_root : (i : Instance) (m : ℕ) → i.cluster.channels ≢ 1 → (message_at i m).both ≡ false → root_channel i m ≡ None
none_at_root i m several free = rw (ne_eqb _ _ several, free) refl

-- it may be there
IsChannel-root : (i : Instance) (m : ℕ) → 1 ≤ i.cluster.channels → i.cluster.channels ≤ 2 → HasChannels i m → IsChannel i m (root_channel i m)
IsChannel-root i m least most has = elim (cases_eq i.cluster.channels 1) [
  | inl alone ↦
      let never : IsFalse (message_at i m).both = has alone in
      let own : MayBeOn i m 0 = record { known = omega arith; alone = λ _. refl; both = λ twice. absurd (both_ways _ never twice) } in
      subst (IsChannel i m) (sym (only_at_root i m alone)) own
  | inr several ↦ elim (cases_Bool (message_at i m).both) [
    | inl both ↦
        let own : MayBeOn i m both_channels = record { known = omega arith; alone = λ one. absurd (several one); both = λ _. refl } in
        subst (IsChannel i m) (sym (both_at_root i m several both)) own
    | inr free ↦
        let two : i.cluster.channels ≡ 2 = omega (arith, least, most, several) in
        subst (IsChannel i m) (sym (none_at_root i m several free)) (two, free)
  ]
]

-- and each valid plan has its messages there
root_allows : (i : Instance) (plan : Plan) (m : ℕ) → IsValid i plan → m < length i.messages → IsFixedTo (root_channel i m) (channel_of plan m)
root_allows i plan m v h = elim (cases_eq i.cluster.channels 1) [
  | inl alone ↦ rw (only_at_root i m alone) ((v.on_own m h).alone alone)
  | inr several ↦ elim (cases_Bool (message_at i m).both) [
    | inl both ↦ rw (both_at_root i m several both) ((v.on_own m h).both both)
    | inr free ↦ rw (none_at_root i m several free) tt
  ]
]

-- nothing is chosen that isn't there
pub IsChoice-root_of : (i : Instance) → 0 < i.cluster.horizon → 1 ≤ i.cluster.channels → i.cluster.channels ≤ 2
    → EachBelow (length i.messages) (HasChannels i) → IsChoice i (root_choice i)
IsChoice-root_of i some least most has = record {
  few = omega arith;
  nodes = λ k h. absurd (omega arith);
  once = λ j k lt h. absurd (omega arith);
  fixed_length = length-replicate (length i.nodes) None;
  options = λ n h. rw (none_fixed i n h) tt;
  processes = refl;
  tests = length-replicate (length i.processes * length i.processes) _;
  pairs = λ p q holds. absurd (both_ways _ (nothing_goes (length i.processes) p q) holds);
  unordered = refl;
  lo_length = length-replicate (length i.messages) 0;
  hi_length = length-replicate (length i.messages) (i.cluster.horizon - 1);
  ranges = λ m h. omega (arith, first_round i m h);
  within = λ m h. omega (arith, last_round i m h, some);
  channels_length = length-map-range_with_len (root_channel i) 0 (length i.messages);
  channels = λ m h. rw (channel_of_root i m h) (IsChannel-root i m least most (has m h));
}

pub IsChoice-root : (i : Instance) → IsInstance i → IsChoice i (root_choice i)
IsChoice-root i w =
    let cluster = w.ranges AtCluster in
    IsChoice-root_of i (horizon_some i w) cluster.channels_least (omega (arith, cluster.channels)) w.channels

pub IsIn-root : (i : Instance) (plan : Plan) → IsInstance i → IsValid i plan → IsIn i (root_choice i) plan
IsIn-root i plan w v = record {
  lengths = v.lengths;
  prefix = λ k h. absurd (omega arith);
  fixed = λ n h. rw (none_fixed i n h) tt;
  pairs = λ p q holds. absurd (both_ways _ (nothing_goes (length i.processes) p q) holds);
  ranges = λ m h. (omega (arith, first_round i m h), omega (arith, last_round i m h, round_below_horizon i plan w v m h));
  channels = λ m h. rw (channel_of_root i m h) (root_allows i plan m v h);
}
