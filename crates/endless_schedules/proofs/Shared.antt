-- What both directions of the law for ever need of a cluster and its instance of one cycle.
use Rattle.std.proofs.Common.{◌≡◌, ◌≢◌, ◌∙◌, ℕ, zero, suc, ◌+◌, ◌*◌, ◌<◌, ◌≤◌, ◌⊎◌, length, slice_index, All, Contains, arith, inl, inr, refl, sym, ap}
use Rattle.std.proofs.Math.Nat.{div-mul-le_self, mul-le-mul_left}
use Rattle.std.proofs.lemmas.List.{get_or_default}
use Rattle.std.proofs.lemmas.List.Elements.{All-contains}
use Rattle.ttp_model.specs.declared.error.Place.TheVariants as spot
use Rattle.ttp_model.specs.declared.plan.Plan.{Plan}
use Rattle.ttp_model.specs.Rules.{IsInstance}
use Rattle.ttp_model.specs.Plans.{end_of}
use Rattle.ttp_model.specs.Instance as instance
use Rattle.rates_model.specs.declared.error.RatesPlace.TheVariants.{AtLink, AtMessage}
use Rattle.rates_model.specs.Rates.{Rates, link_at, message_at, node_of, period_of, process_at}
use Rattle.rates_model.specs.Cycles.{cycle, horizon_of, jobs_of, round_of}
use Rattle.rates_model.specs.Reads.{last_begun}
use Rattle.rates_model.specs.Rules.{IsRates}
use Rattle.endless_schedules.specs.Stores.{first_store, storing_nodes}
use Rattle.endless_schedules.specs.Unrolled.{readers, unrolled}
use Rattle.endless_schedules.specs.Runs.{IsRun, Job, Run, Store, home_of, place_of, ticks_of}
use Rattle.endless_schedules.specs.Sent.{sender_jobs, sender_node, sent_place}
use Rattle.endless_schedules.specs.Endless.{IsStoredFor, ReadsIn, Receives}
use Rattle.endless_schedules.proofs.ReadJobs.{begun_below, read_tells}
use Rattle.endless_schedules.proofs.Readers.{reader_there, store_reads}
use Rattle.endless_schedules.proofs.RunPlaces.{home_is, ticks_are}
use Rattle.endless_schedules.proofs.SentPlaces.{IsSent, sender_is}
use Rattle.endless_schedules.proofs.StoringNodes.{stored_there}

module _ (rho : Rates) (w : IsRates rho) where
  module _ (m : ℕ) (inside : m < length rho.messages) where
    pub sender_there : (message_at rho m).sender < length rho.processes
    sender_there = (w.indices (AtMessage m) inside).0

    pub receiver_is_there : (q : ℕ) → Contains (message_at rho m).receivers q → q < length rho.processes
    receiver_is_there q receives = All-contains (λ p. p < length rho.processes) (message_at rho m).receivers q (w.indices (AtMessage m) inside).1 receives

    pub short_delay : (message_at rho m).delay ≤ 1
    short_delay = w.ranges (AtMessage m) inside

  -- a reader is in the cycle of what it reads, or the next
  pub received : (m q c j d k : ℕ) → Receives rho m q c j d k
      → ((d ≡ c) × (k + (message_at rho m).delay ≡ last_begun rho (message_at rho m).sender q j))
      ⊎ ((suc d ≡ c) × (last_begun rho (message_at rho m).sender q j ≡ 0) × (k + 1 ≡ sender_jobs rho m) × ((message_at rho m).delay ≡ 1))
  received m q c j d k r =
      read_tells rho w (message_at rho m).sender q (sender_there m r.there) (receiver_is_there m r.there q r.receiver)
      (message_at rho m).delay (short_delay m r.there) c j d k r.read

  some_of : (m k z : ℕ) → Contains (readers rho m k) z → 0 < length (readers rho m k)
  some_of m k z has = omega (arith, has.1)

  -- what is read is sent
  pub is_sent : (m q c j d k : ℕ) → Receives rho m q c j d k → IsSent rho m k
  is_sent m q c j d k r = (
    r.there,
    r.read.read,
    elim (received m q c j d k r) [
      | inl now ↦ some_of m k _ (reader_there rho m k r.read.read (short_delay m r.there) q j r.receiver r.read.reader now.1)
      | inr later ↦
          let stored = stored_there rho (message_at rho m) q later.3 r.receiver in
          some_of m k _ (store_reads rho m k r.read.read (short_delay m r.there) stored.0 later.2 stored.1)
    ],
  )

  -- what is read of an earlier cycle is of the last one, and is stored on the reader's node
  pub stored_before : (m q c j d k : ℕ) → Receives rho m q c j d k → c ≢ d → (d + 1 ≡ c) × IsStoredFor rho m q
  stored_before m q c j d k r differ = elim (received m q c j d k r) [
    | inl now ↦ absurd (differ (sym now.0))
    | inr later ↦
        let stored = stored_there rho (message_at rho m) q later.3 r.receiver in
        let is : home_of rho (Store m stored.0) ≡ node_of rho q = get_or_default (storing_nodes rho (message_at rho m)) stored.0 0 (node_of rho q) stored.1 ∙ stored.2 in
        (omega (arith, later.0), (stored.0, (r.there, stored.1), is))
  ]

module _ (rho : Rates) (plan : Plan) (w : IsRates rho) (i : IsInstance (unrolled rho)) where
  pub horizon_within : horizon_of rho ≤ cycle rho
  horizon_within = div-mul-le_self (cycle rho) (round_of rho)

  pub some_cycle : 0 < cycle rho
  some_cycle = omega (arith, horizon_within, (i.ranges spot.AtCluster).horizon_least)

  -- when a run ends in one cycle
  pub run_end : (run : Run) → IsRun rho run → end_of (unrolled rho) plan (place_of rho run) ≡ slice_index plan.starts (place_of rho run) + ticks_of rho run
  run_end run there = ap (λ x. slice_index plan.starts (place_of rho run) + x) (ticks_are rho run there)

  -- the node that a message is sent from
  pub source_is : (m k : ℕ) → IsSent rho m k → instance.source_of (unrolled rho) (sent_place rho m k) ≡ sender_node rho m
  source_is m k there =
      ap (instance.node_of (unrolled rho)) (sender_is rho m k there) ∙ home_is rho (Job (message_at rho m).sender k) (sender_there rho w m there.0, there.1)
