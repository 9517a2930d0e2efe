-- Which move isn't known to make a plan better. Own profile.
use Rattle.std.specs.Prelude.{◌≡◌, ℕ, ◌+◌, ◌<◌, ◌≤◌, length}
use Rattle.ttp_model.specs.Instance.{Instance, source_of}
use Rattle.ttp_model.specs.Names.{message_name, node_name, source_name}
use Rattle.ttp_model.specs.Totals.{total}
use Rattle.tt_choice.specs.Choice.{Choice}
use Rattle.tt_choice.specs.Extremes.{cap_least, start_least}
use Rattle.sought_plans.specs.Dominance.{IsMirrored, StandTurned, bytes_beside}
use Rattle.sought_plans.specs.Known.{Known, lo_of}
use Rattle.certificate_reasons.specs.declared.move_lacks.MoveLack.{MoveLack}
use Rattle.certificate_reasons.specs.declared.move_lacks.MoveLack.TheVariants.{NoRoom, NotBefore, NotMirrored, NotReady, NotTurned}
use Rattle.certificate_reasons.specs.Dominance.{most_ready}

-- message m couldn't be sent in round r: it isn't earlier, else m isn't ready, else there is no room
abbrev pub IsNotEarlier : Instance → Choice → Known → ℕ → ℕ → MoveLack → Type 0
IsNotEarlier i c f m r (NotBefore message round least) =
    (message.now ≡ message_name i m) × (round ≡ r) × (least ≡ lo_of f m) × (least ≤ round)
IsNotEarlier i c f m r (NotReady message ready node round start by) =
    (message.now ≡ message_name i m) × (ready ≡ most_ready i f m) × (node.now ≡ source_name i m) × (round ≡ r)
    × (start ≡ start_least i c (source_of i m) r) × (0 < by) × (start + by ≡ ready)
IsNotEarlier i c f m r (NoRoom message node round bytes most by) =
    (message.now ≡ message_name i m) × (node.now ≡ source_name i m) × (round ≡ r)
    × (bytes ≡ total (bytes_beside i f m r) (length i.messages)) × (most ≡ cap_least i c (source_of i m)) × (0 < by) × (most + by ≡ bytes)
IsNotEarlier i c f m r _ = ⊥

-- nodes u and v don't stand turned
abbrev pub IsNotTurned : Instance → Choice → ℕ → ℕ → MoveLack → Type 0
IsNotTurned i c u v (NotTurned node other) = (node.now ≡ node_name i u) × (other.now ≡ node_name i v) × ¬ StandTurned i c u v
IsNotTurned i c u v _ = ⊥

-- message m doesn't lead a turned frame
abbrev pub IsNotMirrored : Instance → Choice → Known → ℕ → MoveLack → Type 0
IsNotMirrored i c f m (NotMirrored message) = (message.now ≡ message_name i m) × ¬ IsMirrored i c f m
IsNotMirrored i c f m _ = ⊥
