-- A place whose numbers are not all in their ranges has one that is outside, and the first is told.
use Rattle.std.proofs.Common.{◌≡◌, ℕ, ◌-◌, ◌<◌, ◌≤◌, ◌⊎◌, inl, inr, Option, None, Some, IsSome, arith, refl}
use Rattle.std.proofs.lemmas.Bool.{cases_lt, le-leb, lt-leb}
use Rattle.ttp_model.specs.Limits.{most_bus_ticks, most_bytes, most_channels, most_head, most_per_byte, most_ticks}
use Rattle.ttp_model.specs.declared.parts.Cluster.{Cluster}
use Rattle.ttp_model.specs.declared.parts.Process.{Process}
use Rattle.ttp_model.specs.declared.error.Place.{Place}
use Rattle.ttp_model.specs.declared.error.Place.TheVariants.{AtCluster, AtLink, AtMessage, AtNode, AtProcess}
use Rattle.ttp_model.specs.Instance.{Instance, message_at, process_at}
use Rattle.ttp_model.specs.Rules.{IsClusterInRange, IsInRange, IsProcessInRange}
use Rattle.instance_text.specs.declared.error.Key.{Key}
use Rattle.instance_text.specs.declared.error.Key.TheVariants as key
use Rattle.instance_reasons.specs.declared.ranges.Outside.{Outside}
use Rattle.instance_reasons.specs.Ranges.{IsOut, Misses, cluster_outside, first_of, outside, outside_at, process_outside}

-- none is outside and this holds, or the first that is outside is told
abbrev Told : Option Outside → Type 0 → Type 0
Told found P = ((found ≡ None) × P) ⊎ ((x : Outside) × (found ≡ Some x) × IsOut x)

-- a number below its range, above it or within
one : (k : Key) (value least most : ℕ) → Told (outside k value least most) ((least ≤ value) × (value ≤ most))
one k value least most = elim (cases_lt value least) [
  | inl low ↦ inr (
    record { key = k; value = value; least = least; most = most },
    rw (lt-leb least value low) refl,
    inl low,
  )
  | inr le ↦ elim (cases_lt most value) [
    | inl high ↦ inr (
      record { key = k; value = value; least = least; most = most },
      rw (le-leb least value le, lt-leb value most high) refl,
      inr high,
    )
    | inr within ↦ inl (rw (le-leb least value le, le-leb value most within) refl, (le, within))
  ]
]

both : {P Q : Type 0} (a b : Option Outside) → Told a P → Told b Q → Told (first_of a b) (P × Q)
both a b (inr x) y = inr (x.0, rw x.1 refl, x.2)
both a b (inl x) (inl y) = inl (rw x.0 y.0, (x.1, y.1))
both a b (inl x) (inr y) = inr (y.0, rw x.0 y.1, y.2)

-- number by number, in the order of the definition: the first that is outside is told, or all of them are in their ranges
cluster-told : (c : Cluster) → Told (cluster_outside c) (IsClusterInRange c)
cluster-told c =
    let all = both _ _ (one key.Precision c.precision 0 most_bus_ticks) (both _ _ (one key.Lead c.lead 0 most_bus_ticks)
    (both _ _ (one key.Trail c.trail 0 most_bus_ticks)
    (both _ _ (one key.Head c.head 1 most_head) (both _ _ (one key.PerByte c.per_byte 1 most_per_byte) (both _ _ (one key.CopyOut c.copy_out 0 most_bus_ticks)
    (both _ _ (one key.CopyIn c.copy_in 0 most_bus_ticks) (both _ _ (one key.Horizon c.horizon 1 most_ticks)
    (one key.Channels c.channels 1 most_channels)))))))) in
    elim all [
      | inr x ↦ inr x
      | inl (e, (precision, (lead, (trail, (head, (per_byte, (copy_out, (copy_in, (horizon, channels))))))))) ↦ inl (
        e,
        record {
          precision = precision.1;
          lead = lead.1;
          trail = trail.1;
          head_least = head.0;
          head = head.1;
          per_byte_least = per_byte.0;
          per_byte = per_byte.1;
          copy_out = copy_out.1;
          copy_in = copy_in.1;
          horizon_least = horizon.0;
          horizon = horizon.1;
          channels_least = channels.0;
          channels = channels.1;
        },
      )
    ]

process-told : (p : Process) → Told (process_outside p.wcet p.release p.deadline) (IsProcessInRange p)
process-told p = elim (both _ _ (one key.Wcet p.wcet 1 most_ticks) (both _ _ (one key.Release p.release 0 most_ticks)
    (one key.Deadline p.deadline 1 most_ticks))) [
      | inr x ↦ inr x
      | inl (e, (wcet, (release, deadline))) ↦ inl (
        e,
        record { wcet_least = wcet.0; wcet = wcet.1; release = release.1; deadline_least = deadline.0; deadline = deadline.1 },
      )
    ]

told : (i : Instance) (at : Place) → Told (outside_at i at) (IsInRange i at)
told i AtCluster = cluster-told i.cluster
told i (AtNode n) = inl (refl, tt)
told i (AtProcess p) = elim (process-told (process_at i p)) [
  | inr x ↦ inr x
  | inl x ↦ inl (x.0, λ _. x.1)
]
told i (AtLink l) = inl (refl, tt)
told i (AtMessage m) = elim (one key.Bytes (message_at i m).bytes 1 most_bytes) [
  | inr x ↦ inr x
  | inl x ↦ inl (x.0, λ _. x.1)
]

pub range_missed : (i : Instance) (at : Place) → ¬ IsInRange i at → (x : Outside) × (outside_at i at ≡ Some x) × IsOut x
range_missed i at wrong = elim (told i at) [
  | inl x ↦ absurd (wrong x.1)
  | inr x ↦ x
]

-- what is told is the one that is outside
pub out_told : (i : Instance) (at : Place) (x : Outside) → ¬ IsInRange i at → outside_at i at ≡ Some x → IsOut x
out_told i at x wrong is =
    let found = range_missed i at wrong in
    let one = found.1 in
    let same : found.0 ≡ x = cc in
    rw same at found.2

-- where one is outside, it is told
pub some_out : (i : Instance) (at : Place) (o : Option Outside) → ¬ IsInRange i at → o ≡ outside_at i at → IsSome o
some_out i at o wrong is =
    let found = range_missed i at wrong in
    rw (is, found.1) refl

-- by how much it is
pub below : (x : Outside) (by : ℕ) → x.value < x.least → by ≡ x.least - x.value → (0 < by) × Misses x by
below x by low is = (omega (arith, low, is), inl (omega (arith, low, is)))

pub past : (x : Outside) (by : ℕ) → IsOut x → x.least ≤ x.value → by ≡ x.value - x.most → (0 < by) × Misses x by
past x by (inl low) within is = absurd (omega (arith, low, within))
past x by (inr high) within is = (omega (arith, high, is), inr (omega (arith, high, is)))
