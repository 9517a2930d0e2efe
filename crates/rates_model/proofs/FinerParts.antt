-- Parts in finer ticks, list by list.
use Rattle.std.proofs.Common.{◌≡◌, ℕ, List, map, None, Some, refl, ap, sym}
use Rattle.rates_model.specs.declared.parts.RatesCluster.{RatesCluster}
use Rattle.rates_model.specs.declared.parts.RatesProcess.{RatesProcess}
use Rattle.rates_model.specs.declared.parts.Chain.{Chain}
use Rattle.rates_model.specs.Rates.{Rates}
use Rattle.rates_model.specs.Finer.{finer, finer_chain, finer_cluster, finer_process, finer_ticks, in_finer_ticks, share_of, with_round}

-- these in place of its own
abbrev pub with_finer : Rates → RatesCluster → List RatesProcess → List Chain → Rates
with_finer rho cluster processes chains = record {
  cluster = cluster;
  nodes = rho.nodes;
  processes = processes;
  links = rho.links;
  messages = rho.messages;
  chains = chains;
}

pub all_finer : (rho : Rates) (f g s t : ℕ) (cluster : RatesCluster) (processes : List RatesProcess) (chains : List Chain) → f ≡ g → s ≡ t
    → cluster ≡ finer_cluster f s rho.cluster → processes ≡ map (finer_process f) rho.processes → chains ≡ map (finer_chain f) rho.chains
    → with_finer rho cluster processes chains ≡ in_finer_ticks g t rho
all_finer rho f g s t cluster processes chains ticks share of_cluster of_processes of_chains = rw (← ticks, ← share, of_cluster, of_processes, of_chains) refl

-- where no round is asked for, and where one is
pub without_round : (rho : Rates) → rho.cluster.round ≡ None → rho ≡ finer rho
unfolding finer
without_round rho none = sym (ap (with_round rho) none)

pub for_round : (rho : Rates) (round : ℕ) → rho.cluster.round ≡ Some round → in_finer_ticks (finer_ticks rho round) (share_of rho round) rho ≡ finer rho
unfolding finer
for_round rho round asked = sym (ap (with_round rho) asked)
