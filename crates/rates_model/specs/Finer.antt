-- A cluster of several rates in ticks so fine that its round is as long as is asked for: what its slots leave of that is shared evenly.
use Rattle.std.specs.Prelude.{ℕ, ◌+◌, ◌-◌, ◌*◌, ◌/◌, ◌^◌, min, max, length, map, Option, None, Some}
use Rattle.ttp_model.specs.Limits.{most_nodes}
use Rattle.rates_model.specs.declared.parts.RatesCluster.{RatesCluster}
use Rattle.rates_model.specs.declared.parts.RatesProcess.{RatesProcess}
use Rattle.rates_model.specs.declared.parts.Chain.{Chain}
use Rattle.rates_model.specs.Rates.{Rates}
use Rattle.rates_model.specs.Cycles.{least_times, round_of}

-- how many slots share it: one of each node, of which there have to be 1 to 32
abbrev pub sharing_slots : Rates → ℕ
sharing_slots rho = max 1 (min (length rho.nodes) most_nodes)

-- what the slots leave of a round of so many ticks
abbrev pub rest_of : Rates → ℕ → ℕ
rest_of rho round = round - round_of rho

-- how many finer ticks make one: the fewest of which the rest has the same whole number for each slot
abbrev pub finer_ticks : Rates → ℕ → ℕ
finer_ticks rho round = least_times (rest_of rho round) (sharing_slots rho)

-- that number
abbrev pub share_of : Rates → ℕ → ℕ
share_of rho round = finer_ticks rho round * rest_of rho round / sharing_slots rho

-- so many ticks in finer ones, as far as 32 bits hold them: what is more no rule lets pass
abbrev pub times : ℕ → ℕ → ℕ
times finer ticks = min (ticks * finer) (2 ^ 32 - 1)

-- the numbers of a cluster, each slot of which is longer by a share, behind its frame
unfoldable pub finer_cluster : ℕ → ℕ → RatesCluster → RatesCluster
finer_cluster finer share c = record {
  precision = times finer c.precision;
  lead = times finer c.lead;
  trail = min (times finer c.trail + share) (2 ^ 32 - 1);
  head = times finer c.head;
  per_byte = times finer c.per_byte;
  copy_out = times finer c.copy_out;
  copy_in = times finer c.copy_in;
  channels = c.channels;
  store = times finer c.store;
  round = c.round;
  finer = finer;
}

-- a process
unfoldable pub finer_process : ℕ → RatesProcess → RatesProcess
finer_process finer p = record {
  name = p.name;
  node = p.node;
  wcet = times finer p.wcet;
  period = times finer p.period;
  release = times finer p.release;
  deadline = times finer p.deadline;
}

-- a chain
unfoldable pub finer_chain : ℕ → Chain → Chain
finer_chain finer chain = record { name = chain.name; through = chain.through; age = times finer chain.age }

-- a cluster in ticks that are so many times finer, with such a share
abbrev pub in_finer_ticks : ℕ → ℕ → Rates → Rates
in_finer_ticks finer share rho = record {
  cluster = finer_cluster finer share rho.cluster;
  nodes = rho.nodes;
  processes = map (finer_process finer) rho.processes;
  links = rho.links;
  messages = rho.messages;
  chains = map (finer_chain finer) rho.chains;
}

-- with the round that is asked for, if one is
abbrev pub with_round : Rates → Option ℕ → Rates
with_round rho None = rho
with_round rho (Some round) = in_finer_ticks (finer_ticks rho round) (share_of rho round) rho

-- A cluster as it is planned: where no round is asked for it is itself.
unfoldable pub finer : Rates → Rates
finer rho = with_round rho rho.cluster.round
