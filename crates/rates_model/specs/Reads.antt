-- Which job of a process is read by which job of another. Jobs of a process are counted from 0 over all cycles: job k of
-- cycle c is that of this number from all.
use Rattle.std.specs.Prelude.{◌≡◌, ℕ, ◌+◌, ◌-◌, ◌*◌, ◌/◌, Bool, ◌&&◌, ◌||◌, ◌==◌}
use Rattle.std.specs.List.{list_any}
use Rattle.rates_model.specs.Rates.{Rates, period_of}
use Rattle.rates_model.specs.Cycles.{jobs_of}

-- job k of cycle c
abbrev pub job_from_all : Rates → ℕ → ℕ → ℕ → ℕ
job_from_all rho p c k = c * jobs_of rho p + k

-- the job of p whose period is the last that has begun when that of job j of q begins
abbrev pub last_begun : Rates → ℕ → ℕ → ℕ → ℕ
last_begun rho p q j = j * period_of rho q / period_of rho p

-- what job j of q reads of p: the value of that job, or with a delay of 1 that of the one before it
abbrev pub Reads : Rates → ℕ → ℕ → ℕ → ℕ → ℕ → Type 0
Reads rho p q delay j k = k + delay ≡ last_begun rho p q j

-- Job k of p from the begin of the cycle before that job j of q reads, where j is counted from the begin of its own cycle:
-- from n(p) on it is a job of this cycle, and below a job of the cycle before, whose value was stored.
abbrev pub read_job : Rates → ℕ → ℕ → ℕ → ℕ → ℕ
read_job rho p q delay j = jobs_of rho p + last_begun rho p q j - delay

-- job j of q reads job k of p of its own cycle
abbrev pub reads_now : Rates → ℕ → ℕ → ℕ → ℕ → ℕ → Bool
reads_now rho p q delay k j = read_job rho p q delay j == jobs_of rho p + k

-- job j of q reads job k of p of the cycle before
abbrev pub reads_stored : Rates → ℕ → ℕ → ℕ → ℕ → ℕ → Bool
reads_stored rho p q delay k j = read_job rho p q delay j == k

-- a link or a message with this delay leads from p to q
abbrev pub leads : Rates → ℕ → ℕ → ℕ → Bool
leads rho p q delay =
    list_any (λ l. (l.before == p) && (l.after == q) && (l.delay == delay)) rho.links
    || list_any (λ m. (m.sender == p) && (m.delay == delay) && list_any (λ r. r == q) m.receivers) rho.messages
