-- A process starts, in a settled plan, when all is over that it may have to wait for.
use Rattle.std.proofs.Common.{◌≡◌, ℕ, ◌-◌, ◌<◌, ◌≤◌, length, arith, inl, inr, refl, ap}
use Rattle.std.proofs.lemmas.Bool.{cases_Bool, cases_lt}
use Rattle.ttp_model.specs.declared.plan.Plan.{Plan}
use Rattle.ttp_model.specs.declared.step.Step.TheVariants.{UsSettled}
use Rattle.ttp_model.specs.declared.error.Place.TheVariants.{AtProcess}
use Rattle.ttp_model.specs.Instance.{Instance, node_of, source_of}
use Rattle.ttp_model.specs.Rules.{IsInstance}
use Rattle.ttp_model.specs.Plans.{IsValid, start_of, end_of, round_of}
use Rattle.ttp_model.specs.Moves.{IsSettled, StartsEarlier, started}
use Rattle.ttp_model.proofs.ValidPlans.{link_kept}
use Rattle.tt_moves.specs.Earlier.{CanStart}
use Rattle.tt_moves.proofs.EarlierStarts.{started_valid}
use Rattle.tt_choice.specs.Choice.{Choice, IsChoice, IsIn}
use Rattle.tt_choice.proofs.Bounds.{end_between, end_most_later}
use Rattle.sought_plans.specs.Known.{Known, IsSought, AreTrueOf, top_of, bef_of}
use Rattle.sought_plans.specs.Dominance.{MayGoBefore, MayWaitUntil}
use Rattle.tt_infer.proofs.Soundness.{IsSoundFor}
use Rattle.tt_infer.proofs.Sending.{agrees, source_is}

-- a process that really goes before p isn't known to come after it
may_go : (i : Instance) (plan : Plan) (f : Known) (p x : ℕ) → IsInstance i → IsValid i plan → AreTrueOf i plan f → p < length i.processes → node_of i x ≡ node_of i p → end_of i plan x ≤ start_of plan p → MayGoBefore i f p x
may_go i plan f p x w v t hp same first =
    let long = (w.ranges (AtProcess p) hp).wcet_least in
    record {
      other = λ is. omega (arith, first, long, ap (end_of i plan) is);
      one_node = same;
      not_known = elim (cases_Bool (bef_of f p x)) [
        | inl is ↦ (let after = t.bef p x is in absurd (omega (arith, after, first, long)))
        | inr is ↦ is
      ];
      no_link = λ link. let after = link_kept i plan p x v link in omega (arith, after, first, long);
    }

-- all is over by then that p waits for in the plan
can_start : (i : Instance) (c : Choice) (plan : Plan) (f : Known) (p time : ℕ) → IsInstance i → IsChoice i c → IsValid i plan → IsIn i c plan → AreTrueOf i plan f → p < length i.processes → MayWaitUntil i c f p time → (later : ℕ) → time ≤ later → CanStart i plan p later
can_start i c plan f p time w ok v inside t hp wait later after = record {
  released = omega (arith, wait.release, after);
  others = λ x hx node first. omega (arith, wait.others x hx (may_go i plan f p x w v t hp node first), t.le x hx, after);
  messages = λ m h receives.
      let over = wait.messages m (h, receives) in
      let most = (end_between i c plan.order plan.caps (source_of i m) (round_of plan m) w ok (agrees i c plan v inside) (source_is i m w h)).1 in
      let grows = end_most_later i c (source_of i m) (round_of plan m) (top_of f m - 1) (omega (arith, t.top m h)) in
      omega (arith, over, most, grows, after);
}

starts_by : (i : Instance) (c : Choice) (plan : Plan) (f : Known) (p time : ℕ) → IsInstance i → IsChoice i c → IsSettled i plan → IsIn i c plan → AreTrueOf i plan f → p < length i.processes → MayWaitUntil i c f p time → start_of plan p ≤ time
starts_by i c plan f p time w ok settled inside t hp wait = elim (cases_lt time (start_of plan p)) [
  | inl later ↦
      let sooner : ℕ = start_of plan p - 1 in
      let move : StartsEarlier i plan (started plan p sooner) = record { process = p; is_there = hp; above = omega (arith, later); moved_is = refl } in
      let can = can_start i c plan f p time w ok settled.valid inside t hp wait sooner (omega (arith, later)) in
      absurd (settled.rests (started plan p sooner) (inl (inl (inl move))) (started_valid i plan p sooner w settled.valid hp (omega arith) can))
  | inr over ↦ over
]

pub us_settled_sound : (i : Instance) (c : Choice) (goal : ℕ) (f : Known) (plan : Plan) (p : ℕ) → IsInstance i → IsChoice i c → IsSought i c goal plan → AreTrueOf i plan f → IsSoundFor i c goal f plan (UsSettled p)
us_settled_sound i c goal f plan p w ok sought t k there premise is =
    let by = starts_by i c plan f p is.0 w ok sought.settled sought.chosen t there is.1.wait in
    rw is.2 (omega (arith, by))
