-- A small cluster of two rates, on which the law for ever is tried: its figures were computed by hand.
use Rattle.std.specs.Prelude.{ℕ, List, [], ◌∷◌, None, false, codes}
use Rattle.ttp_model.specs.declared.parts.Process.{Process}
use Rattle.ttp_model.specs.declared.plan.Plan.{Plan}
use Rattle.ttp_model.specs.Instance.{Instance, instance_with}
use Rattle.ttp_model.specs.Worked.{node_with, plain_cluster}
use Rattle.rates_model.specs.declared.parts.RatesCluster.{RatesCluster}
use Rattle.rates_model.specs.declared.parts.RatesProcess.{RatesProcess}
use Rattle.rates_model.specs.Rates.{Rates}

-- a bus as plain as that of `plain_cluster`, on which storing takes a tick
abbrev pub plain_bus : RatesCluster
plain_bus = record {
  precision = 0;
  lead = 0;
  trail = 0;
  head = 1;
  per_byte = 1;
  copy_out = 0;
  copy_in = 0;
  channels = 1;
  store = 1;
  round = None;
  finer = 1;
}

-- a process of a tick, with a job in each period
abbrev pub each_period : List ℕ → ℕ → ℕ → RatesProcess
each_period name node period = record { name = name; node = node; wcet = 1; period = period; release = 0; deadline = period }

-- Each 8 ticks p sends two bytes from A to q on B, which runs each 4 ticks, reads those of the 8 ticks before, and is to end 14 ticks
-- behind the release of p at most.
abbrev pub late_pair : Rates
late_pair = record {
  cluster = plain_bus;
  nodes = record { name = codes "A"; capacity = 2 } ∷ record { name = codes "B"; capacity = 0 } ∷ [];
  processes = each_period (codes "p") 0 8 ∷ each_period (codes "q") 1 4 ∷ [];
  links = [];
  messages = record { name = codes "m"; sender = 0; receivers = 1 ∷ []; bytes = 2; both = false; delay = 1 } ∷ [];
  chains = record { name = codes "c"; through = 0 ∷ 1 ∷ []; age = 14 } ∷ [];
}

-- a job or a store of a tick
abbrev pub tick_on : List ℕ → ℕ → ℕ → ℕ → Process
tick_on name node release deadline = record { name = name; node = node; wcet = 1; release = release; deadline = deadline }

-- the instance of its cycle of 8 ticks, two rounds of 4
abbrev pub late_jobs : Instance
late_jobs = instance_with (record plain_cluster { horizon = 8 })
    (node_with (codes "A") 2 ∷ node_with (codes "B") 0 ∷ [])
    (tick_on (codes "p") 0 0 8 ∷ tick_on (codes "q_0") 1 0 4 ∷ tick_on (codes "q_1") 1 4 6 ∷ tick_on (codes "m_at_B") 1 0 8 ∷ [])
    []
    (record { name = codes "m"; sender = 0; receivers = 3 ∷ []; bytes = 2; both = false } ∷ [])

-- B before A, p and the first job of q at once, the message in round 0, its store at 4, and the second job of q behind that
abbrev pub late_plan : Plan
late_plan = record { order = 1 ∷ 0 ∷ []; caps = 2 ∷ 0 ∷ []; starts = 0 ∷ 0 ∷ 5 ∷ 4 ∷ []; rounds = 0 ∷ []; channels = 0 ∷ [] }
