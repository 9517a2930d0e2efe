-- Which number is outside its range, and by how much. Own profile.
use Rattle.std.specs.Prelude.{◌≡◌, ◌⊎◌, ℕ, ◌+◌, ◌<◌, ◌&&◌, nat_le, if◌then◌else◌, Option, None, Some}
use Rattle.ttp_model.specs.Limits.{most_bus_ticks, most_bytes, most_channels, most_head, most_per_byte, most_ticks}
use Rattle.ttp_model.specs.declared.parts.Cluster.{Cluster}
use Rattle.ttp_model.specs.declared.error.Place.{Place}
use Rattle.ttp_model.specs.declared.error.Place.TheVariants.{AtCluster, AtLink, AtMessage, AtNode, AtProcess}
use Rattle.ttp_model.specs.Instance.{Instance, message_at, process_at}
use Rattle.instance_text.specs.declared.error.Key.{Key}
use Rattle.instance_text.specs.declared.error.Key.TheVariants as key
use Rattle.instance_reasons.specs.declared.ranges.Outside.{Outside}
use Rattle.instance_reasons.specs.declared.ranges.OutsideRange.{OutsideRange}
use Rattle.instance_reasons.specs.Spots.{IsSpot}

-- a number with its range, where it is outside of it
abbrev pub outside : Key → ℕ → ℕ → ℕ → Option Outside
outside k value least most =
    if nat_le least value && nat_le value most
    then None
    else Some (record { key = k; value = value; least = least; most = most })

-- the first of two
abbrev pub first_of : Option Outside → Option Outside → Option Outside
first_of (Some x) y = Some x
first_of None y = y

-- the first number of the cluster that is outside its range, in the order in which a text states them
abbrev pub cluster_outside : Cluster → Option Outside
cluster_outside c =
    first_of (outside key.Precision c.precision 0 most_bus_ticks)
    (first_of (outside key.Lead c.lead 0 most_bus_ticks)
    (first_of (outside key.Trail c.trail 0 most_bus_ticks)
    (first_of (outside key.Head c.head 1 most_head)
    (first_of (outside key.PerByte c.per_byte 1 most_per_byte)
    (first_of (outside key.CopyOut c.copy_out 0 most_bus_ticks)
    (first_of (outside key.CopyIn c.copy_in 0 most_bus_ticks)
    (first_of (outside key.Horizon c.horizon 1 most_ticks)
    (outside key.Channels c.channels 1 most_channels))))))))

-- the first one of a process
abbrev pub process_outside : ℕ → ℕ → ℕ → Option Outside
process_outside wcet release deadline =
    first_of (outside key.Wcet wcet 1 most_ticks)
    (first_of (outside key.Release release 0 most_ticks)
    (outside key.Deadline deadline 1 most_ticks))

-- the first one at a place
abbrev pub outside_at : Instance → Place → Option Outside
outside_at i AtCluster = cluster_outside i.cluster
outside_at i (AtNode n) = None
outside_at i (AtProcess p) = process_outside (process_at i p).wcet (process_at i p).release (process_at i p).deadline
outside_at i (AtLink l) = None
outside_at i (AtMessage m) = outside key.Bytes (message_at i m).bytes 1 most_bytes

-- a number is below its range, or above it
abbrev pub IsOut : Outside → Type 0
IsOut x = (x.value < x.least) ⊎ (x.most < x.value)

-- by so much
abbrev pub Misses : Outside → ℕ → Type 0
Misses x by = (x.value + by ≡ x.least) ⊎ (x.most + by ≡ x.value)

-- the first at this place is outside by something
pub record IsOutsideRange (i : Instance) (at : Place) (r : OutsideRange) : Type 0 where
  pub spot_is : IsSpot i at r.spot
  pub number_is : outside_at i at ≡ Some r.number
  pub some : 0 < r.by
  pub misses : Misses r.number r.by
