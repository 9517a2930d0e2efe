-- What `repeat` tells of the cycle of a cluster of several rates, and of a plan in it, and the texts of both.
use Rattle.std.specs.Prelude.{◌≡◌, ◌≢◌, ℕ, zero, suc, ◌%◌, List, [], ◌++◌, length, Option, None, Some, codes, decimal}
use Rattle.ttp_model.specs.declared.plan.Plan.{Plan}
use Rattle.rates_model.specs.Rates.{Rates, chain_at, process_at}
use Rattle.rates_model.specs.Cycles.{cycle, round_of, rounds_in}
use Rattle.endless_schedules.specs.Unrolled.{unrolled_links, unrolled_messages, unrolled_processes}
use Rattle.plan_cycles.specs.declared.repetition.Near.{Near}
use Rattle.plan_cycles.specs.Divisors.{Divides}
use Rattle.plan_cycles.specs.Repetition.{IsNear}
use Rattle.plan_cycles.specs.Text.{near_line}
use Rattle.endless_schedules.specs.declared.spreads.Spread.{Spread}
use Rattle.endless_schedules.specs.Ages.{IsAge}
use Rattle.endless_schedules.specs.Spreads.{IsSpread}
use Rattle.rates_command.specs.declared.cycle.RatesCycle.{RatesCycle}

-- the nearest rounds that divide the cycle, where the round doesn't itself
abbrev pub AreNearest : ℕ → ℕ → Option Near → Type 0
AreNearest period round None = Divides round period
AreNearest period round (Some near) = (¬ Divides round period) × IsNear period round near

-- the cycle of a cluster, how its rounds lie in it, and how large the instance of one cycle is
pub record IsCycleOf (rho : Rates) (told : RatesCycle) : Type 0 where
  pub finer : told.finer ≡ rho.cluster.finer
  pub period : told.period ≡ cycle rho
  pub round : told.round ≡ round_of rho
  pub rounds : told.rounds ≡ rounds_in rho
  pub gap : told.gap ≡ cycle rho % round_of rho
  pub near : AreNearest (cycle rho) (round_of rho) told.near
  pub processes : told.processes ≡ length (unrolled_processes rho)
  pub links : told.links ≡ length (unrolled_links rho)
  pub messages : told.messages ≡ length (unrolled_messages rho)

-- the ticks and the rounds
unfoldable pub rounds_text : RatesCycle → List ℕ
rounds_text told =
    codes "ttrepeat 1\nfiner " ++ (decimal told.finer ++ (codes "\nperiod " ++ (decimal told.period ++ (codes "\nround " ++ (decimal told.round ++ (codes "\nrounds " ++ (decimal told.rounds ++ (codes "\ngap " ++ (decimal told.gap ++ codes "\n")))))))))

-- the nearest rounds that leave no gap, where there is one
abbrev pub near_text : Option Near → List ℕ
near_text None = []
near_text (Some near) = near_line near

-- the counts of the instance
unfoldable pub counts_text : RatesCycle → List ℕ
counts_text told =
    codes "processes " ++ (decimal told.processes ++ (codes "\nlinks " ++ (decimal told.links ++ (codes "\nmessages " ++ (decimal told.messages ++ codes "\n")))))

-- all of it
abbrev pub cycle_text : RatesCycle → List ℕ
cycle_text told = rounds_text told ++ (near_text told.near ++ counts_text told)

-- the line of a process, with its jitter and its response
unfoldable pub process_line : List ℕ → Spread → List ℕ
process_line name spread = codes "process " ++ (name ++ (codes " " ++ (decimal spread.jitter ++ (codes " " ++ (decimal spread.response ++ codes "\n")))))

-- the line of a chain, with its age and the bound on it
unfoldable pub chain_line : List ℕ → ℕ → ℕ → List ℕ
chain_line name age bound = codes "chain " ++ (name ++ (codes " " ++ (decimal age ++ (codes " " ++ (decimal bound ++ codes "\n")))))

-- so many lines, one after another
abbrev pub AreLines : (ℕ → List ℕ → Type 0) → ℕ → List ℕ → Type 0
AreLines IsLine zero text = text ≡ []
AreLines IsLine (suc count) text = (before line : List ℕ) × AreLines IsLine count before × IsLine count line × (text ≡ before ++ line)

-- a text gains such a line, and so many
abbrev pub AddsLine : (List ℕ → Type 0) → List ℕ → List ℕ → Type 0
AddsLine IsLine old new = (line : List ℕ) × IsLine line × (new ≡ old ++ line)

abbrev pub AddsLines : (ℕ → List ℕ → Type 0) → ℕ → List ℕ → List ℕ → Type 0
AddsLines IsLine count old new = (lines : List ℕ) × AreLines IsLine count lines × (new ≡ old ++ lines)

-- the line of process p, in a plan
pub record IsProcessLine (rho : Rates) (plan : Plan) (p : ℕ) (line : List ℕ) : Type 0 where
  pub spread : Spread
  pub is : IsSpread rho plan p spread
  pub spelled : line ≡ process_line (process_at rho p).name spread

-- the line of chain x
pub record IsChainLine (rho : Rates) (plan : Plan) (x : ℕ) (line : List ℕ) : Type 0 where
  pub age : ℕ
  pub is : IsAge rho plan (chain_at rho x) age
  pub spelled : line ≡ chain_line (chain_at rho x).name age (chain_at rho x).age

-- what `repeat` tells of a cluster
pub record IsCycleText (rho : Rates) (text : List ℕ) : Type 0 where
  pub told : RatesCycle
  pub is : IsCycleOf rho told
  pub spelled : text ≡ cycle_text told

-- and of a plan: the same, and then a line for each process and each chain
pub record IsPlanText (rho : Rates) (plan : Plan) (text : List ℕ) : Type 0 where
  pub front : List ℕ
  pub processes : List ℕ
  pub chains : List ℕ
  pub of_cluster : IsCycleText rho front
  pub of_processes : AreLines (IsProcessLine rho plan) (length rho.processes) processes
  pub of_chains : AreLines (IsChainLine rho plan) (length rho.chains) chains
  pub spelled : text ≡ front ++ (processes ++ chains)
