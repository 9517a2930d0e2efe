use Rattle.std.proofs.Common.{◌≡◌, ◌++◌, map, filter}
use Rattle.std.specs.List.{range_with_len}
use Rattle.rates_model.specs.Reads.{reads_now}
use Rattle.endless_schedules.specs.Stores.{job_index}
use Rattle.endless_schedules.proofs.messages.push_jobs_reading.Given as goal

abbrev pub invariant-loop-j : goal.invariant-loop-j
invariant-loop-j l = l.list.items ≡ l.initial.list.items ++ map (job_index l.rates l.q) (filter (reads_now l.rates l.message.sender l.q l.message.delay l.k) (range_with_len 0 l.j))
