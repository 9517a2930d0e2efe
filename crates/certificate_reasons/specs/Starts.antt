-- Why a process starts at some tick or later. Own profile.
use Rattle.std.specs.Prelude.{◌≡◌, ℕ}
use Rattle.ttp_model.specs.Instance.{Instance, link_at, process_at, source_of}
use Rattle.ttp_model.specs.Names.{message_name, process_name, sender_name, source_name}
use Rattle.tt_choice.specs.Choice.{Choice}
use Rattle.tt_choice.specs.Extremes.{dur_least, end_least}
use Rattle.sought_plans.specs.Known.{Known, lo_of}
use Rattle.sought_plans.specs.Premises.{least_end, sender_of}
use Rattle.certificate_reasons.specs.declared.starts.EarliestStart.{EarliestStart}
use Rattle.certificate_reasons.specs.declared.starts.EarliestStart.TheVariants.{Arrival, Behind, Link, Message, Release}
use Rattle.certificate_reasons.specs.declared.starts.UnderWay.{UnderWay}

-- it is released
abbrev pub IsRelease : Instance → ℕ → EarliestStart → Type 0
IsRelease i p (Release process release) = (process.now ≡ process_name i p) × (release ≡ (process_at i p).release)
IsRelease i p _ = ⊥

-- it waits for another one by a link
abbrev pub IsLinkStart : Instance → Known → ℕ → EarliestStart → Type 0
IsLinkStart i f l (Link before end after link) =
    (before.now ≡ process_name i (link_at i l).before) × (end ≡ least_end i f (link_at i l).before)
    × (after.now ≡ process_name i (link_at i l).after) × (link ≡ l)
IsLinkStart i f l _ = ⊥

-- it is known to run behind another one
abbrev pub IsBehindStart : Instance → Known → ℕ → ℕ → EarliestStart → Type 0
IsBehindStart i f p q (Behind before end after) =
    (before.now ≡ process_name i p) × (end ≡ least_end i f p) × (after.now ≡ process_name i q)
IsBehindStart i f p q _ = ⊥

-- it receives a message that isn't sent before some round
abbrev pub IsArrivalStart : Instance → Choice → Known → ℕ → EarliestStart → Type 0
IsArrivalStart i c f m (Arrival message round node end copy_in) =
    (message.now ≡ message_name i m) × (round ≡ lo_of f m) × (node.now ≡ source_name i m)
    × (end ≡ end_least i c (source_of i m) (lo_of f m)) × (copy_in ≡ i.cluster.copy_in)
IsArrivalStart i c f m _ = ⊥

-- how long a message is under way at least
pub record IsUnderWay (i : Instance) (c : Choice) (m : ℕ) (x : UnderWay) : Type 0 where
  pub message_is : x.message.now ≡ message_name i m
  pub copy_out_is : x.copy_out ≡ i.cluster.copy_out
  pub duration_is : x.duration ≡ dur_least i c (source_of i m)
  pub copy_in_is : x.copy_in ≡ i.cluster.copy_in

-- it receives a message whose sender ends so late
abbrev pub IsMessageStart : Instance → Choice → Known → ℕ → EarliestStart → Type 0
IsMessageStart i c f m (Message sender end transfer) =
    (sender.now ≡ sender_name i m) × (end ≡ least_end i f (sender_of i m)) × IsUnderWay i c m transfer
IsMessageStart i c f m _ = ⊥
