use Rattle.std.proofs.Common.{◌≡◌, ℕ, ◌<◌, length, arith, refl, lit<, lit≤}
use Rattle.ttp_model.specs.Instance.{process_at}
use Rattle.rates_model.specs.Cycles.{cycle, least_multiple, least_times}
use Rattle.endless_schedules.specs.Names.{numbered, stored_name}
use Rattle.endless_schedules.specs.Stores.{first_store, job_index, storing_nodes, with_new}
use Rattle.endless_schedules.specs.Times.{job_deadline}
use Rattle.endless_schedules.specs.Unrolled.{job, job_message, jobs, jobs_reading, link_to, links_of, messages_of, readers, sent_of, store, stores, stores_reading, unrolled, unrolled_node}
use Rattle.endless_schedules.specs.Worked.{late_pair, late_plan}
use Rattle.endless_schedules.specs.Bounds.{with_age}
use Rattle.evidence.proofs.model.ages.just_as_old_as_its_bound.Goals as goal

-- with a bound of 13 the second job of q, which takes a tick, is to end by 5
record IsToEndBy (at wcet deadline : ℕ) : Type 0 where
  there : at < length (unrolled (with_age late_pair 0 13)).processes
  ticks : (process_at (unrolled (with_age late_pair 0 13)) at).wcet ≡ wcet
  by : (process_at (unrolled (with_age late_pair 0 13)) at).deadline ≡ deadline

by_five : IsToEndBy 2 1 5
unfolding cycle least_multiple least_times numbered stored_name first_store job_index storing_nodes with_new job_deadline job job_message jobs jobs_reading link_to links_of messages_of readers sent_of store stores stores_reading unrolled_node
by_five = record { there = lit< tt; ticks = refl; by = refl }

pub returns-clause-within : goal.returns-clause-within
returns-clause-within c =
    let worked = c.late_pair_repeats.ensures in
    ((c.ages_are_bounds.ensures late_pair late_plan 0 14 worked.rates worked.instance (lit< tt) (lit≤ tt)).0 worked.valid).1

pub returns-clause-no_less : goal.returns-clause-no_less
returns-clause-no_less c = λ all.
    let worked = c.late_pair_repeats.ensures in
    let valid = (c.ages_are_bounds.ensures late_pair late_plan 0 13 worked.rates worked.instance (lit< tt) (lit≤ tt)).1 (worked.valid, all) in
    let ends = valid.in_time 2 by_five.there in
    absurd (omega (arith, ends.0, by_five.ticks, by_five.by))
