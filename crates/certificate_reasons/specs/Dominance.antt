-- What is said by the steps that leave out what a move makes better. Own profile.
use Rattle.std.specs.Prelude.{◌≡◌, ℕ, ◌+◌}
use Rattle.ttp_model.specs.Instance.{Instance, source_of}
use Rattle.ttp_model.specs.Names.{message_name, node_name, process_name, source_name}
use Rattle.tt_choice.specs.Choice.{Choice}
use Rattle.tt_choice.specs.Extremes.{start_least}
use Rattle.sought_plans.specs.Known.{Known, le_of}
use Rattle.sought_plans.specs.Premises.{sender_of, wcet_of}
use Rattle.certificate_reasons.specs.declared.dominance.DominanceReason.{DominanceReason}
use Rattle.certificate_reasons.specs.declared.dominance.DominanceReason.TheVariants.{Late, Mirror, Settled, Silent}

-- when a message is copied out at most
abbrev pub most_ready : Instance → Known → ℕ → ℕ
most_ready i f m = le_of f (sender_of i m) + i.cluster.copy_out

-- a process would start a tick earlier
abbrev pub IsSettled : Instance → ℕ → DominanceReason → Type 0
IsSettled i p (Settled process wcet) = (process.now ≡ process_name i p) × (wcet ≡ wcet_of i p)
IsSettled i p _ = ⊥

-- a message would be sent in an earlier round
abbrev pub IsLate : Instance → Choice → Known → ℕ → ℕ → DominanceReason → Type 0
IsLate i c f m r (Late message round node start ready) =
    (message.now ≡ message_name i m) × (round ≡ r) × (node.now ≡ source_name i m)
    × (start ≡ start_least i c (source_of i m) r) × (ready ≡ most_ready i f m)
IsLate i c f m r _ = ⊥

-- silent twins would exchange their slots
abbrev pub IsSilent : Instance → ℕ → ℕ → DominanceReason → Type 0
IsSilent i u v (Silent node other) = (node.now ≡ node_name i u) × (other.now ≡ node_name i v)
IsSilent i u v _ = ⊥

-- the channels of a slot would be exchanged
abbrev pub IsMirror : Instance → ℕ → DominanceReason → Type 0
IsMirror i m (Mirror message) = message.now ≡ message_name i m
IsMirror i m _ = ⊥
