-- Why a message is sent in some round or later, or before one. Own profile.
use Rattle.std.specs.Prelude.{◌≡◌, ℕ}
use Rattle.ttp_model.specs.Instance.{Instance}
use Rattle.ttp_model.specs.Names.{message_name, process_name, source_name}
use Rattle.sought_plans.specs.Known.{Known, le_of}
use Rattle.sought_plans.specs.Premises.{least_ready, wcet_of}
use Rattle.certificate_reasons.specs.declared.rounds.RoundReason.{RoundReason}
use Rattle.certificate_reasons.specs.declared.rounds.RoundReason.TheVariants.{Arrive, Send}

-- it is copied out so late
abbrev pub IsSendRound : Instance → Known → ℕ → RoundReason → Type 0
IsSendRound i f m (Send message ready node) =
    (message.now ≡ message_name i m) × (ready ≡ least_ready i f m) × (node.now ≡ source_name i m)
IsSendRound i f m _ = ⊥

-- its receiver has to end so early
abbrev pub IsArriveRound : Instance → Known → ℕ → ℕ → RoundReason → Type 0
IsArriveRound i f m q (Arrive receiver wcet end message copy_in) =
    (receiver.now ≡ process_name i q) × (wcet ≡ wcet_of i q) × (end ≡ le_of f q)
    × (message.now ≡ message_name i m) × (copy_in ≡ i.cluster.copy_in)
IsArriveRound i f m q _ = ⊥
