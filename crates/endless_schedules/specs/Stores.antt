-- Where a message's value for the next cycle is stored, and which index each job and each store has in the instance.
use Rattle.std.specs.Prelude.{ℕ, ◌+◌, ◌==◌, List, [], ◌∷◌, ◌++◌, length, map, fold, if◌then◌else◌}
use Rattle.std.specs.List.{list_any}
use Rattle.ttp_model.specs.Totals.{total}
use Rattle.rates_model.specs.declared.parts.RatesMessage.{RatesMessage}
use Rattle.rates_model.specs.Rates.{Rates, message_at, node_of}
use Rattle.rates_model.specs.Cycles.{jobs_of}

-- a number behind a list, where it doesn't stand there yet
unfoldable pub with_new : List ℕ → ℕ → List ℕ
with_new xs x = if list_any (λ y. y == x) xs then xs else xs ++ x ∷ []

-- numbers, each once, in the order in which they come first
abbrev pub each_once : List ℕ → List ℕ
each_once xs = fold with_new [] xs

-- the nodes of a message's receivers, each once
abbrev pub receiving_nodes : Rates → RatesMessage → List ℕ
receiving_nodes rho m = each_once (map (node_of rho) m.receivers)

-- The nodes that store a message: with a delay of 1 the first job of each receiver reads a job of the cycle before, and without
-- one none does.
unfoldable pub storing_nodes : Rates → RatesMessage → List ℕ
storing_nodes rho m = if m.delay == 0 then [] else receiving_nodes rho m

-- how many jobs all processes have
abbrev pub all_jobs : Rates → ℕ
all_jobs rho = total (jobs_of rho) (length rho.processes)

-- the index of job k of a process: behind the jobs of those before it
unfoldable pub job_index : Rates → ℕ → ℕ → ℕ
job_index rho p k = total (jobs_of rho) p + k

-- the index of the first store of a message: behind all jobs, and behind the stores of those before it
unfoldable pub first_store : Rates → ℕ → ℕ
first_store rho m = all_jobs rho + total (λ k. length (storing_nodes rho (message_at rho k))) m

-- the nodes that store each message
abbrev pub all_storing : Rates → List (List ℕ)
all_storing rho = map (storing_nodes rho) rho.messages
