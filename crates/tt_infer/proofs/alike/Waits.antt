-- Where what tells how long a process may have to wait is known alike, it may have to wait as long in both.
use Rattle.std.proofs.Common.{◌≡◌, ℕ, ◌-◌, ◌<◌, length, IsFalse, arith, inl, inr, refl, ap, sym, ◌∙◌}
use Rattle.ttp_model.specs.Instance.{Instance, source_of}
use Rattle.ttp_model.specs.declared.step.Step.TheVariants.{UsSettled}
use Rattle.tt_choice.specs.Choice.{Choice}
use Rattle.tt_choice.specs.Extremes.{end_most}
use Rattle.tt_infer.specs.declared.fact.Fact.TheVariants.{End, LateRound, Order}
use Rattle.tt_infer.specs.declared.limit.Limit.TheVariants.{GreatestSlot}
use Rattle.sought_plans.specs.Known.{Known, le_of, top_of, bef_of}
use Rattle.sought_plans.specs.Dominance.{MayGoBefore, MayWaitUntil, IsGreatestWait, IsSentTo, HasRounds}
use Rattle.tt_infer.specs.Reads.{AgreeOnReads, IsRival}

module _ (i : Instance) (c : Choice) (goal : ℕ) (f : Known) (d : Choice) (aim : ℕ) (g : Known) (p : ℕ) (agree : AgreeOnReads i c goal f d aim g (UsSettled p)) where
  late_alike : (m : ℕ) → IsSentTo i p m → top_of f m ≡ top_of g m
  late_alike m is = agree.facts (LateRound m) (inr (m, is.0, (is, refl)))

  pub rounds_alike : HasRounds i f p → HasRounds i g p
  rounds_alike rounds m is = omega (arith, rounds m is, late_alike m is)

  order_alike : (x : ℕ) → x < length i.processes → IsRival i p x → bef_of f p x ≡ bef_of g p x
  order_alike x there rival = agree.facts (Order p x) (inl (x, there, (rival, inl refl)))

  end_alike : (x : ℕ) → x < length i.processes → IsRival i p x → IsFalse (bef_of f p x) → le_of f x ≡ le_of g x
  end_alike x there rival unknown = agree.facts (End x) (inl (x, there, (rival, inr (unknown, refl))))

  rival_of : (h : Known) (x : ℕ) → MayGoBefore i h p x → IsRival i p x
  rival_of h x may = record { other = may.other; one_node = may.one_node; no_link = may.no_link }

  may_go_on : (x : ℕ) → x < length i.processes → MayGoBefore i f p x → MayGoBefore i g p x
  may_go_on x there may = record { other = may.other; one_node = may.one_node; not_known = sym (order_alike x there (rival_of f x may)) ∙ may.not_known; no_link = may.no_link }

  may_go_back : (x : ℕ) → x < length i.processes → MayGoBefore i g p x → MayGoBefore i f p x
  may_go_back x there may = record { other = may.other; one_node = may.one_node; not_known = order_alike x there (rival_of g x may) ∙ may.not_known; no_link = may.no_link }

  arrival_alike : (m : ℕ) → IsSentTo i p m → end_most i c (source_of i m) (top_of f m - 1) ≡ end_most i d (source_of i m) (top_of g m - 1)
  arrival_alike m is =
      let slot = agree.limits (GreatestSlot (source_of i m)) (m, is, refl) in
      (slot (top_of f m - 1)).1 ∙ ap (λ late. end_most i d (source_of i m) (late - 1)) (late_alike m is)

  wait_on : (time : ℕ) → MayWaitUntil i c f p time → MayWaitUntil i d g p time
  wait_on time wait = record {
    release = wait.release;
    others = λ x there may.
        let before = may_go_back x there may in
        omega (arith, wait.others x there before, end_alike x there (rival_of f x before) before.not_known);
    messages = λ m is. omega (arith, wait.messages m is, arrival_alike m is);
  }

  wait_back : (time : ℕ) → MayWaitUntil i d g p time → MayWaitUntil i c f p time
  wait_back time wait = record {
    release = wait.release;
    others = λ x there may. omega (arith, wait.others x there (may_go_on x there may), end_alike x there (rival_of f x may) may.not_known);
    messages = λ m is. omega (arith, wait.messages m is, arrival_alike m is);
  }

  pub greatest_wait_alike : (time : ℕ) → IsGreatestWait i c f p time → IsGreatestWait i d g p time
  greatest_wait_alike time is = record { wait = wait_on time is.wait; least = λ sooner wait. is.least sooner (wait_back sooner wait) }
