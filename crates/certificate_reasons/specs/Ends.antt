-- Why a process ends at some tick or earlier. Own profile.
use Rattle.std.specs.Prelude.{◌≡◌, ℕ, ◌-◌}
use Rattle.ttp_model.specs.Instance.{Instance, link_at, process_at, source_of}
use Rattle.ttp_model.specs.Names.{message_name, process_name, source_name}
use Rattle.tt_choice.specs.Choice.{Choice}
use Rattle.tt_choice.specs.Extremes.{start_most}
use Rattle.sought_plans.specs.Known.{Known, top_of}
use Rattle.sought_plans.specs.Premises.{most_start}
use Rattle.certificate_reasons.specs.declared.ends.LatestEnd.{LatestEnd}
use Rattle.certificate_reasons.specs.declared.ends.LatestEnd.TheVariants.{Before, Link, Message, Own, Send}
use Rattle.certificate_reasons.specs.Starts.{IsUnderWay}

-- it is due, and no plan is sought that takes longer
abbrev pub IsOwnEnd : Instance → ℕ → ℕ → LatestEnd → Type 0
IsOwnEnd i goal p (Own process deadline horizon below) =
    (process.now ≡ process_name i p) × (deadline ≡ (process_at i p).deadline) × (horizon ≡ i.cluster.horizon) × (below ≡ goal)
IsOwnEnd i goal p _ = ⊥

-- another one waits for it by a link
abbrev pub IsLinkEnd : Instance → Known → ℕ → LatestEnd → Type 0
IsLinkEnd i f l (Link after start before link) =
    (after.now ≡ process_name i (link_at i l).after) × (start ≡ most_start i f (link_at i l).after)
    × (before.now ≡ process_name i (link_at i l).before) × (link ≡ l)
IsLinkEnd i f l _ = ⊥

-- it is known to run before another one
abbrev pub IsBeforeEnd : Instance → Known → ℕ → ℕ → LatestEnd → Type 0
IsBeforeEnd i f p q (Before after start before) =
    (after.now ≡ process_name i q) × (start ≡ most_start i f q) × (before.now ≡ process_name i p)
IsBeforeEnd i f p q _ = ⊥

-- a receiver of its message starts so early
abbrev pub IsMessageEnd : Instance → Choice → Known → ℕ → ℕ → LatestEnd → Type 0
IsMessageEnd i c f m q (Message receiver start transfer) =
    (receiver.now ≡ process_name i q) × (start ≡ most_start i f q) × IsUnderWay i c m transfer
IsMessageEnd i c f m q _ = ⊥

-- its message has no round later than some
abbrev pub IsSendEnd : Instance → Choice → Known → ℕ → LatestEnd → Type 0
IsSendEnd i c f m (Send message round node start copy_out) =
    (message.now ≡ message_name i m) × (round ≡ top_of f m - 1) × (node.now ≡ source_name i m)
    × (start ≡ start_most i c (source_of i m) (top_of f m - 1)) × (copy_out ≡ i.cluster.copy_out)
IsSendEnd i c f m _ = ⊥
