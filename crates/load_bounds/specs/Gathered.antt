-- A node's processes and messages as demands. Own profile.
use Rattle.std.specs.Prelude.{◌≡◌, ℕ, List}
use Rattle.ttp_model.specs.Instance.{Instance}
use Rattle.ttp_model.specs.Totals.{total}
use Rattle.tt_choice.specs.Choice.{Choice}
use Rattle.tt_infer.specs.Known.{Known}
use Rattle.tt_infer.specs.Premises.{load_within, bytes_copied, bytes_counted}
use Rattle.load_bounds.specs.declared.demands.Demand.{Demand}
use Rattle.load_bounds.specs.Within.{demand_within}

-- the first processes of an instance, where they are the node's, as demands: in each interval they
-- demand what runs in it
abbrev pub AreRuns : Instance → Known → ℕ → ℕ → List Demand → Type 0
AreRuns i f n count ds = (a b : ℕ) → demand_within a b ds ≡ total (load_within i f n a b) count

-- the first messages of an instance, where the node sends them, as demands: in each interval they
-- demand what is sent in it on all channels, as far as that is known
abbrev pub AreSendings : Instance → Choice → Known → ℕ → ℕ → List Demand → Type 0
AreSendings i c f n count ds = (a b : ℕ) → demand_within a b ds ≡ total (bytes_copied i c f n a b) count

-- so those that count on one channel: they demand what is sent on it
abbrev pub AreSendingsOn : Instance → Choice → Known → ℕ → ℕ → ℕ → List Demand → Type 0
AreSendingsOn i c f k n count ds = (a b : ℕ) → demand_within a b ds ≡ total (bytes_counted i c f k n a b) count
