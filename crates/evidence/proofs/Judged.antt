-- What follows of the judgement of a plan.
use Rattle.std.proofs.Common.{◌≡◌, ◌≢◌, ℕ, slice_index, Result, Ok, Err, IfOk, IfErr, OnOk, IsOk, IsErr, refl, ap, arith}
use Rattle.std.proofs.lemmas.Bool.{false≢true}
use Rattle.ttp_model.specs.declared.plan.Plan.{Plan}
use Rattle.ttp_model.specs.declared.fault.PlanFault.{PlanFault}
use Rattle.ttp_model.specs.Instance.{Instance}
use Rattle.ttp_model.specs.Plans.{IsValid, load_on}
use Rattle.ttp_model.specs.Delays.{delay}
use Rattle.ttp_model.specs.Faults.{IsFirstFault, IsFirstOverfull}

module _ (i : Instance) (plan : Plan) where
  -- a fault that is told is another one where that one isn't the first
  pub not_told : (result : Result ℕ PlanFault) (fault : PlanFault) → IfErr result (IsFirstFault i plan) → ¬ IsFirstFault i plan fault
      → IfErr result (λ told. told ≢ fault)
  not_told (Ok ticks) fault says isn't = tt
  not_told (Err told) fault says isn't = λ same. isn't (rw (← same) says)

  -- what isn't valid is refused
  pub refused : (result : Result ℕ PlanFault) → OnOk result (IsValid i plan) → ¬ IsValid i plan → IsErr result
  refused (Ok ticks) says isn't = absurd (isn't says)
  refused (Err told) says isn't = refl

  -- a frame that holds on a channel just as much as it may isn't the first that holds too much there
  pub just_fits : (channels n r c : ℕ) → load_on i plan n r c ≡ slice_index plan.caps n → ¬ IsFirstOverfull i plan channels n r c
  just_fits channels n r c full broken = broken.channel.fails (λ on. rw (broken.node, broken.round) (omega (arith, full)))

-- of a plan that is known to be valid the delay is told
pub delay_is_told : (i j : Instance) (plan other : Plan) (result : Result ℕ PlanFault) → i ≡ j → plan ≡ other → IsValid j other
    → (IsValid i plan → IsOk result) → IfOk result (λ ticks. ticks ≡ delay i plan) → result ≡ Ok (delay j other)
delay_is_told i j plan other (Ok ticks) same alike valid only says = ap Ok (rw (← same, ← alike) says)
delay_is_told i j plan other (Err fault) same alike valid only says = absurd (false≢true (only (rw (same, alike) valid)))

-- and one that is known not to be is refused
pub fault_is_told : (i j : Instance) (plan other : Plan) (result : Result ℕ PlanFault) → i ≡ j → plan ≡ other → ¬ IsValid j other
    → OnOk result (IsValid i plan) → IsErr result
fault_is_told i j plan other (Ok ticks) same alike broken ok = absurd (broken (rw (← same, ← alike) ok))
fault_is_told i j plan other (Err fault) same alike broken ok = refl
