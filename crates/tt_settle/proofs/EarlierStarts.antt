-- A process that starts when all is over that it waits for: the plan stays valid, and the process can start no earlier.
use Rattle.std.proofs.Common.{◌≡◌, ◌≢◌, ℕ, zero, suc, ◌+◌, ◌-◌, ◌<◌, ◌≤◌, List, [], ◌∷◌, length, slice_index, slice_set, arith, inl, inr, refl, subst, ◌∙◌, sym, ap, get_or-set_other, get_or-set_same}
use Rattle.std.proofs.lemmas.List.{set-get_or}
use Rattle.std.proofs.lemmas.List.Sums.{sum_by-set}
use Rattle.std.proofs.lemmas.Grind.{common_steps}
use Rattle.ttp_model.specs.declared.plan.Plan.{Plan}
use Rattle.ttp_model.specs.declared.error.Place.TheVariants.{AtProcess}
use Rattle.ttp_model.specs.Graph.{Receives}
use Rattle.ttp_model.specs.Instance.{Instance, process_at, message_at, node_of}
use Rattle.ttp_model.specs.Rules.{IsInstance}
use Rattle.ttp_model.specs.Plans.{EndsBefore, IsValid, start_of, end_of}
use Rattle.ttp_model.specs.Moves.{StartsEarlier, MovesLead, none, one_more, started}
use Rattle.ttp_model.proofs.ValidPlans.{two_apart}
use Rattle.ttp_model.proofs.Delays.{by_starts}
use Rattle.tt_moves.specs.Earlier.{CanStart}
use Rattle.tt_moves.proofs.EarlierStarts.{started_valid, starts_le}
use Rattle.plan_facts.specs.Earliest.{IsFirstStart}
use Rattle.plan_facts.specs.Messages.{arrival}
use Rattle.plan_facts.proofs.Starting.{can_start_later, can_start_now}
use Rattle.tt_settle.specs.Settling.{IsBetter, RestsAtStart}

set_twice : (xs : List ℕ) (p a b : ℕ) → slice_set (slice_set xs p a) p b ≡ slice_set xs p b
set_twice [] p a b = refl
set_twice (x ∷ xs) zero a b = refl
set_twice (x ∷ xs) (suc p) a b = ap (λ ys. x ∷ ys) (set_twice xs p a b)

module _ (i : Instance) (plan : Plan) (p time : ℕ) (w : IsInstance i) (v : IsValid i plan) (hp : p < length i.processes) (first : IsFirstStart i plan p time) where
  p_takes : 1 ≤ (process_at i p).wcet
  p_takes = (w.ranges (AtProcess p) hp).wcet_least

  -- what p waits for is over when it starts in the plan
  over : time ≤ start_of plan p
  over = first.least (start_of plan p) (can_start_now i plan p v hp)

  can_start : (late : ℕ) → time ≤ late → CanStart i plan p late
  can_start late after = can_start_later i plan p time late first.can after

  -- a tick earlier and a tick earlier again
  tick : (late : ℕ) → time ≤ late → late < start_of plan p → StartsEarlier i (started plan p (late + 1)) (started plan p late)
  tick late after sooner =
      let here : start_of (started plan p (late + 1)) p ≡ late + 1 = get_or-set_same plan.starts p (late + 1) 0 (omega (arith, v.lengths.starts, hp)) in
      let before : start_of (started plan p (late + 1)) p - 1 ≡ late = omega (arith, here) in
      record {
        process = p;
        is_there = hp;
        above = omega (arith, here);
        moved_is = ap (λ (xs : List ℕ). record plan { starts = xs }) (sym (set_twice plan.starts p (late + 1) late)) ∙ ap (λ (t : ℕ). started (started plan p (late + 1)) p t) (sym before);
      }

  ticks : (k late : ℕ) → late ≡ time + k → late ≤ start_of plan p → MovesLead i (started plan p late) (started plan p time)
  ticks zero late is sooner = let same : late ≡ time = omega (arith, is) in rw same (none (started plan p time))
  ticks (suc k) late is sooner =
      let after : late ≡ time + k + 1 = omega (arith, is) in
      rw after (one_more (started plan p (time + k + 1)) (started plan p (time + k)) (started plan p time)
      (inl (inl (inl (tick (time + k) (omega arith) (omega (arith, after, sooner))))))
      (started_valid i plan p (time + k) w v hp (omega (arith, after, sooner)) (can_start (time + k) (omega arith)))
      (ticks k (time + k) refl (omega (arith, after, sooner))))

  -- the start that it has
  own_start : started plan p (start_of plan p) ≡ plan
  own_start = ap (λ (xs : List ℕ). record plan { starts = xs }) (set-get_or plan.starts p 0)

  -- it is a better plan in which p starts then
  pub better_started : time < start_of plan p → IsBetter i plan (started plan p time)
  better_started sooner = record {
    valid = started_valid i plan p time w v hp over (can_start time (omega arith));
    leads = subst (λ (from : Plan). MovesLead i from (started plan p time)) own_start (ticks (start_of plan p - time) (start_of plan p) (omega (arith, sooner)) (omega arith));
    delay = by_starts i plan (started plan p time) w v (λ q h. starts_le i plan p time w v hp over (can_start time (omega arith)) q);
    lighter = inl (omega (arith, sooner, sum_by-set (λ x. x) plan.starts p time 0 (omega (arith, hp, v.lengths.starts))));
  }

  -- where the plan is valid with a start a tick earlier, all is over by then
  module _ (above : 0 < start_of plan p) (v' : IsValid i (started plan p (start_of plan p - 1))) where
    moved : Plan
    moved = started plan p (start_of plan p - 1)

    now : start_of moved p ≡ start_of plan p - 1
    unfolding moved
    now = get_or-set_same plan.starts p (start_of plan p - 1) 0 (omega (arith, v.lengths.starts, hp))

    rest : (q : ℕ) → q ≢ p → start_of moved q ≡ start_of plan q
    unfolding moved
    rest q other = get_or-set_other plan.starts p q (start_of plan p - 1) 0 other

    released_by : (process_at i p).release ≤ start_of plan p - 1
    unfolding moved
    released_by = omega (arith, v'.released p hp, now)

    others_by : (q : ℕ) → q < length i.processes → node_of i q ≡ node_of i p → EndsBefore i plan q p → end_of i plan q ≤ start_of plan p - 1
    unfolding moved
    others_by q h node ends =
        let other : q ≢ p = λ is. omega (arith, ends, ap (end_of i plan) is, p_takes) in
        elim (two_apart i moved q p v' h hp other node) [
          | inl before ↦ omega (arith, before, now, rest q other)
          | inr after ↦ omega (arith, after, ends, now, rest q other, above, p_takes, (w.ranges (AtProcess q) h).wcet_least)
        ]

    there_by : (m : ℕ) → m < length i.messages → Receives i p m → arrival i plan m ≤ start_of plan p - 1
    unfolding moved
    there_by m h place =
        let at : slice_index (message_at i m).receivers place.0 ≡ p = grind (arith, common_steps, place.2) in
        omega (arith, v'.arrived m h place.0 place.1, now, ap (start_of moved) at)

    could_start : CanStart i plan p (start_of plan p - 1)
    could_start = record { released = released_by; others = others_by; messages = there_by }

  pub rests_at_start : start_of plan p ≤ time → RestsAtStart i plan p
  rests_at_start late above v' = omega (arith, first.least (start_of plan p - 1) (could_start above v'), late, above)
