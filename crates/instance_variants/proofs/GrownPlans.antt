-- A plan stays valid where processes run longer just where none does by more than its slack.
use Rattle.std.proofs.Common.{◌≡◌, ◌≢◌, ℕ, ◌+◌, ◌<◌, ◌≤◌, length, arith, inl, inr, ap, refl, sym}
use Rattle.std.proofs.lemmas.Bool.{cases_order}
use Rattle.std.proofs.lemmas.Bool.Decides.{eqb_tells}
use Rattle.ttp_model.specs.declared.plan.Plan.{Plan}
use Rattle.ttp_model.specs.declared.error.Place.TheVariants.{AtCluster, AtLink, AtMessage, AtProcess}
use Rattle.ttp_model.specs.Instance.{Instance, link_at, message_at, node_of, process_at}
use Rattle.ttp_model.specs.Rules.{IsInstance}
use Rattle.ttp_model.specs.Plans.{AreApart, EndsBefore, IsValid, end_of, sent_from, start_of}
use Rattle.instance_variants.specs.Variants.{HasWindows, KeepsTimes, timed}
use Rattle.instance_variants.specs.Grown.{LeavesWindows, alone, grown}
use Rattle.instance_variants.specs.Slack.{IsWithinSlack, slack}
use Rattle.instance_variants.proofs.VariedRules.{rules_varied}
use Rattle.instance_variants.proofs.VariedPlans.{timed_variant, valid_with_times}
use Rattle.instance_variants.proofs.Allowed.{AllAllow, allowed-latest, end-le-latest, latest-allowed, link-allowed, link-allows, message-allowed, message-allows, process-allowed, process-allows}
use Rattle.instance_variants.proofs.GrownProcesses.{count, deadline_kept, differ, end_is, node_kept, release_kept, sent_from_kept, wcet_is}

module _ (i : Instance) (growth : ℕ → ℕ) (wi : IsInstance i) where
  abbrev j : Instance
  j = grown i growth

  inside_old : (p : ℕ) → p < length j.processes → p < length i.processes
  inside_old p there = omega (arith, there, count i growth)

  inside_new : (p : ℕ) → p < length i.processes → p < length j.processes
  inside_new p inside = omega (arith, inside, count i growth)

  -- the instance keeps all rules where each window is left
  module _ (left : LeavesWindows i growth) where
    windows : HasWindows j
    windows = record {
      horizon_least = (wi.ranges AtCluster).horizon_least;
      horizon = (wi.ranges AtCluster).horizon;
      wcet_least = λ p there. let is = inside_old p there in omega (arith, (wi.ranges (AtProcess p) is).wcet_least, wcet_is i growth p is);
      windows = λ p there.
          let is = inside_old p there in
          omega (arith, left p is, wcet_is i growth p is, release_kept i growth p is, deadline_kept i growth p is);
      deadlines = λ p there. let is = inside_old p there in omega (arith, (wi.ranges (AtProcess p) is).deadline, deadline_kept i growth p is);
    }

    pub grown_lawful : IsInstance j
    grown_lawful = rules_varied i (timed i i.cluster.horizon j.processes) (timed_variant i i.cluster.horizon j.processes (differ i growth)) wi windows

  module _ (plan : Plan) (w : IsValid i plan) where
    runs : (q : ℕ) → q < length i.processes → 1 ≤ (process_at i q).wcet
    runs q lt = (wi.ranges (AtProcess q) lt).wcet_least

    -- where the plan stays valid, each limit allows the time at which a process ends then
    module _ (v : IsValid j plan) (p : ℕ) (inside : p < length i.processes) where
      abbrev time : ℕ
      time = end_of i plan p + growth p

      here : end_of j plan p ≡ time
      here = end_is i growth plan p inside

      -- p has no time to end where another ends before it that starts behind it
      apart_allows : (q : ℕ) → q < length i.processes → node_of i q ≡ node_of i p → end_of i plan p ≤ start_of plan q → time ≤ start_of plan q
      apart_allows q lt same before =
          let other : q ≢ p = λ is. absurd (omega (arith, ap (start_of plan) is, before, runs p inside)) in
          let node : node_of j p ≡ node_of j q = rw (node_kept i growth p, node_kept i growth q) (sym same) in
          let that : end_of j plan q ≡ end_of i plan q + growth q = end_is i growth plan q lt in
          let behind : EndsBefore j plan p q → time ≤ start_of plan q = λ ends. omega (arith, ends, here) in
          let never : EndsBefore j plan q p → time ≤ start_of plan q = λ ends. absurd (omega (arith, ends, that, before, runs q lt, runs p inside)) in
          elim (cases_order p q) [
            | inl is ↦ absurd (other (sym is))
            | inr (inl less) ↦ elim (v.apart p (inside_new p inside) q less (inside_new q lt) node) [ inl ends ↦ behind ends | inr ends ↦ never ends ]
            | inr (inr more) ↦ elim (v.apart q (inside_new q lt) p more (inside_new p inside) (sym node)) [ inl ends ↦ never ends | inr ends ↦ behind ends ]
          ]

      pub valid_allows : growth p ≤ slack i plan p
      valid_allows =
          let last = v.in_time p (inside_new p inside) in
          let horizon : time ≤ i.cluster.horizon = omega (arith, last.1, here) in
          let all_allow : AllAllow i plan p time = record {
            last = omega (arith, last.0, here, deadline_kept i growth p inside, horizon);
            processes = λ q lt. process-allows i plan p time horizon q (apart_allows q lt);
            links = λ l lt. link-allows i plan p time horizon l (λ same. omega (arith, v.links l lt, ap (end_of j plan) same, here));
            messages = λ m lt. message-allows i plan p time horizon m (λ same. omega (arith, v.ready m lt, ap (end_of j plan) same, here, sent_from_kept i growth plan m));
          } in
          omega (arith, latest-allowed i plan p time all_allow)

    module _ (within : IsWithinSlack i plan growth) where
      all : (p : ℕ) → p < length i.processes → AllAllow i plan p (end_of i plan p + growth p)
      all p inside = allowed-latest i plan p (end_of i plan p + growth p) (omega (arith, within p inside, end-le-latest i plan w p inside))

      pub leaves_windows : LeavesWindows i growth
      leaves_windows p inside = omega (arith, (all p inside).last, w.released p inside)

      in_time_still : (p : ℕ) → p < length i.processes → (end_of j plan p ≤ (process_at j p).deadline) × (end_of j plan p ≤ i.cluster.horizon)
      in_time_still p inside =
          let last = (all p inside).last in
          let is = end_is i growth plan p inside in
          (omega (arith, is, last, deadline_kept i growth p inside), omega (arith, is, last))

      before_still : (a b : ℕ) → a < length i.processes → b < length i.processes → node_of i b ≡ node_of i a → EndsBefore i plan a b → EndsBefore j plan a b
      before_still a b at_a at_b same before =
          omega (arith, end_is i growth plan a at_a, process-allowed i plan a (end_of i plan a + growth a) b ((all a at_a).processes b at_b) same before)

      apart_still : (a b : ℕ) → a < length i.processes → b < length i.processes → AreApart i plan a b → AreApart j plan a b
      apart_still a b at_a at_b apart = λ same.
          let node : node_of i a ≡ node_of i b = rw (node_kept i growth a, node_kept i growth b) at same in
          elim (apart node) [
            | inl ends ↦ inl (before_still a b at_a at_b (sym node) ends)
            | inr ends ↦ inr (before_still b a at_b at_a node ends)
          ]

      link_still : (l : ℕ) → l < length i.links → EndsBefore j plan (link_at i l).before (link_at i l).after
      link_still l lt =
          let p = (link_at i l).before in
          let inside : p < length i.processes = (wi.indices (AtLink l) lt).0 in
          omega (arith, end_is i growth plan p inside, link-allowed i plan p (end_of i plan p + growth p) l ((all p inside).links l lt) refl)

      ready_still : (m : ℕ) → m < length i.messages → end_of j plan (message_at i m).sender + i.cluster.copy_out ≤ sent_from j plan m
      ready_still m lt =
          let p = (message_at i m).sender in
          let inside : p < length i.processes = (wi.indices (AtMessage m) lt).0 in
          let allowed = message-allowed i plan p (end_of i plan p + growth p) m (omega (arith, w.ready m lt)) ((all p inside).messages m lt) refl in
          omega (arith, end_is i growth plan p inside, sent_from_kept i growth plan m, allowed)

      times_still : KeepsTimes j plan
      times_still = record {
        released = λ p there. let is = inside_old p there in omega (arith, w.released p is, release_kept i growth p is);
        in_time = λ p there. in_time_still p (inside_old p there);
        apart = λ a at_a b less at_b. apart_still a b (inside_old a at_a) (inside_old b at_b) (w.apart a (inside_old a at_a) b less (inside_old b at_b));
        links = link_still;
        ready = ready_still;
      }

      pub within_valid : IsValid j plan
      within_valid = valid_with_times i i.cluster.horizon j.processes (differ i growth) plan w times_still

-- where one process alone runs longer
module _ (i : Instance) (plan : Plan) (p ticks : ℕ) where
  pub alone_within : ticks ≤ slack i plan p → IsWithinSlack i plan (alone p ticks)
  alone_within le q inside = elim (eqb_tells q p) [
    | inl same ↦ rw (same.0) (omega (arith, le, ap (slack i plan) same.1))
    | inr other ↦ rw (other.0) (omega arith)
  ]

  pub within_alone : p < length i.processes → IsWithinSlack i plan (alone p ticks) → ticks ≤ slack i plan p
  within_alone inside within = elim (eqb_tells p p) [
    | inl same ↦ rw same.0 at (within p inside)
    | inr other ↦ absurd (other.1 refl)
  ]
