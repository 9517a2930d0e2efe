-- Why a process ends before another one starts. Own profile.
use Rattle.std.specs.Prelude.{◌≡◌, ℕ}
use Rattle.ttp_model.specs.Instance.{Instance}
use Rattle.ttp_model.specs.Names.{process_name}
use Rattle.sought_plans.specs.Known.{Known, le_of}
use Rattle.sought_plans.specs.Premises.{least_end, wcet_of}
use Rattle.certificate_reasons.specs.declared.orders.OrderReason.{OrderReason}
use Rattle.certificate_reasons.specs.declared.orders.OrderReason.TheVariants.{Twins, Window}

-- the other way round it would end too late
abbrev pub IsWindowOrder : Instance → Known → ℕ → ℕ → OrderReason → Type 0
IsWindowOrder i f p q (Window other other_end process wcet end) =
    (other.now ≡ process_name i q) × (other_end ≡ least_end i f q) × (process.now ≡ process_name i p)
    × (wcet ≡ wcet_of i p) × (end ≡ le_of f p)
IsWindowOrder i f p q _ = ⊥

-- nothing but their names tells them apart
abbrev pub IsTwinOrder : Instance → ℕ → ℕ → OrderReason → Type 0
IsTwinOrder i p q (Twins process other) = (process.now ≡ process_name i p) × (other.now ≡ process_name i q)
IsTwinOrder i p q _ = ⊥
