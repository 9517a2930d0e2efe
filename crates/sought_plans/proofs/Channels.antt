-- How often messages count, by the channels that are fixed for them.
use Rattle.std.proofs.Common.{◌≡◌, ℕ, ◌<◌, ◌≤◌, ◌==◌, if◌then◌else◌, Bool, true, false, length, Option, None, Some, arith, refl}
use Rattle.ttp_model.specs.Instance.{Instance}
use Rattle.ttp_model.specs.Totals.{total}
use Rattle.ttp_model.proofs.Totals.{total_same}
use Rattle.tt_choice.specs.Choice.{Choice, IsChoice}
use Rattle.tt_choice.proofs.Channels.{only_channel}
use Rattle.sought_plans.specs.Known.{Known}
use Rattle.sought_plans.specs.Premises.{bytes_within, copies_of, copies, bytes_copied}

-- a message is in one half of a frame at least
one_or_two : (twice : Bool) → 1 ≤ (if twice then 2 else 1)
one_or_two true = omega arith
one_or_two false = omega arith

pub some_copy : (channel : Option ℕ) → 1 ≤ copies_of channel
some_copy None = omega arith
some_copy (Some fixed) = one_or_two (fixed == 2)

-- with one channel each counts once
pub one_copy : (i : Instance) (c : Choice) (m : ℕ) → i.cluster.channels ≡ 1 → IsChoice i c → m < length i.messages → copies c m ≡ 1
one_copy i c m alone ok inside = rw (only_channel i c m alone ok inside) refl

pub copied_alone : (i : Instance) (c : Choice) (f : Known) (n a b m : ℕ) → i.cluster.channels ≡ 1 → IsChoice i c → m < length i.messages → bytes_copied i c f n a b m ≡ bytes_within i f n a b m
copied_alone i c f n a b m alone ok inside = rw (one_copy i c m alone ok inside) (omega arith)

pub total_copied_alone : (i : Instance) (c : Choice) (f : Known) (n a b : ℕ) → i.cluster.channels ≡ 1 → IsChoice i c → total (bytes_copied i c f n a b) (length i.messages) ≡ total (bytes_within i f n a b) (length i.messages)
total_copied_alone i c f n a b alone ok =
    total_same (bytes_copied i c f n a b) (bytes_within i f n a b) (length i.messages) (λ m inside. copied_alone i c f n a b m alone ok inside)
