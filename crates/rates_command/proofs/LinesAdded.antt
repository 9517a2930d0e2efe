-- A text that gains lines one after another, and what it tells then.
use Rattle.std.proofs.Common.{◌≡◌, ◌∙◌, ℕ, suc, ◌+◌, List, [], ◌++◌, length, refl, sym, ap, add-one}
use Rattle.std.proofs.lemmas.List.{append_assoc, append-nil}
use Rattle.ttp_model.specs.declared.plan.Plan.{Plan}
use Rattle.rates_model.specs.Rates.{Rates, chain_at, process_at}
use Rattle.endless_schedules.specs.declared.spreads.Spread.{Spread}
use Rattle.endless_schedules.specs.Ages.{IsAge}
use Rattle.endless_schedules.specs.Spreads.{IsSpread}
use Rattle.rates_command.specs.declared.cycle.RatesCycle.{RatesCycle}
use Rattle.rates_command.specs.Cycles.{AddsLine, AddsLines, AreLines, IsChainLine, IsCycleOf, IsCycleText, IsPlanText, IsProcessLine, chain_line, counts_text, near_text, process_line, rounds_text}

module _ (IsLine : ℕ → List ℕ → Type 0) where
  -- before the first
  pub no_lines : (text : List ℕ) → AddsLines IsLine 0 text text
  no_lines text = ([], refl, sym (append-nil text))

  -- one more
  pub lines_more : (count : ℕ) (old mid new : List ℕ) → AddsLines IsLine count old mid → AddsLine (IsLine count) mid new → AddsLines IsLine (count + 1) old new
  lines_more count old mid new lines line =
      let longer : AreLines IsLine (suc count) (lines.0 ++ line.0) = (lines.0, line.0, lines.1, line.1, refl) in
      (lines.0 ++ line.0, rw add-one longer, line.2 ∙ (ap (λ (text : List ℕ). text ++ line.0) lines.2 ∙ append_assoc old lines.0 line.0))

module _ (rho : Rates) where
  -- of the cluster
  pub cycle_told : (told : RatesCycle) (empty one two all : List ℕ) → IsCycleOf rho told → empty ≡ [] → one ≡ empty ++ rounds_text told → two ≡ one ++ near_text told.near
      → all ≡ two ++ counts_text told → IsCycleText rho all
  cycle_told told empty one two all is none first second third = record {
    told = told;
    is = is;
    spelled =
        third
        ∙ (ap (λ (text : List ℕ). text ++ counts_text told)
        (second ∙ ap (λ (text : List ℕ). text ++ near_text told.near) (first ∙ ap (λ (text : List ℕ). text ++ rounds_text told) none))
        ∙ append_assoc (rounds_text told) (near_text told.near) (counts_text told));
  }

  module _ (plan : Plan) where
    -- of a process
    pub process_told : (p : ℕ) (spread : Spread) (name old new : List ℕ) → IsSpread rho plan p spread → name ≡ (process_at rho p).name
        → new ≡ old ++ process_line name spread → AddsLine (IsProcessLine rho plan p) old new
    process_told p spread name old new is named added =
        (process_line (process_at rho p).name spread, record { spread = spread; is = is; spelled = refl }, added ∙ ap (λ (it : List ℕ). old ++ process_line it spread) named)

    -- of a chain
    pub chain_told : (x age bound : ℕ) (name old new : List ℕ) → IsAge rho plan (chain_at rho x) age → name ≡ (chain_at rho x).name → bound ≡ (chain_at rho x).age
        → new ≡ old ++ chain_line name age bound → AddsLine (IsChainLine rho plan x) old new
    chain_told x age bound name old new is named bounded added = (
      chain_line (chain_at rho x).name age (chain_at rho x).age,
      record { age = age; is = is; spelled = refl },
      added ∙ (ap (λ (it : List ℕ). old ++ chain_line it age bound) named ∙ ap (λ (most : ℕ). old ++ chain_line (chain_at rho x).name age most) bounded),
    )

    -- and of all
    pub plan_told : (front mid all : List ℕ) → IsCycleText rho front → AddsLines (IsProcessLine rho plan) (length rho.processes) front mid
        → AddsLines (IsChainLine rho plan) (length rho.chains) mid all → IsPlanText rho plan all
    plan_told front mid all told processes chains = record {
      front = front;
      processes = processes.0;
      chains = chains.0;
      of_cluster = told;
      of_processes = processes.1;
      of_chains = chains.1;
      spelled = chains.2 ∙ (ap (λ (text : List ℕ). text ++ chains.0) processes.2 ∙ append_assoc front processes.0 chains.0);
    }
