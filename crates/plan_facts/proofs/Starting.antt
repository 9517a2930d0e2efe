-- The last of what a process waits for is its first start, and is no later than the start that it has.
use Rattle.std.proofs.Common.{◌≡◌, ℕ, ◌+◌, ◌<◌, ◌≤◌, length, slice_index, arith, ap}
use Rattle.std.proofs.lemmas.Grind.{common_steps}
use Rattle.ttp_model.specs.declared.plan.Plan.{Plan}
use Rattle.ttp_model.specs.Instance.{Instance, message_at, process_at}
use Rattle.ttp_model.specs.Graph.{Receives}
use Rattle.ttp_model.specs.Raising.{IsRaised}
use Rattle.ttp_model.specs.Plans.{IsValid, end_of, start_of}
use Rattle.ttp_model.proofs.Raising.{raised_least}
use Rattle.tt_moves.specs.Earlier.{CanStart}
use Rattle.plan_facts.specs.Earliest.{GoesBefore, IsFirstStart}
use Rattle.plan_facts.specs.Messages.{arrival}

module _ (i : Instance) (plan : Plan) (p : ℕ) where
  pub first_start : (release arrived time : ℕ) → release ≡ (process_at i p).release
      → IsRaised (length i.messages) (Receives i p) (arrival i plan) release arrived
      → IsRaised (length i.processes) (GoesBefore i plan p) (end_of i plan) arrived time → IsFirstStart i plan p time
  first_start release arrived time is messages others = record {
    can = record {
      released = omega (arith, is, messages.least, others.least);
      others = λ x inside node ends. others.each x inside (node, ends);
      messages = λ m inside receives. omega (arith, messages.each m inside receives, others.least);
    };
    least = λ other can.
        let floor = raised_least (Receives i p) (arrival i plan) release (length i.messages) arrived other messages (omega (arith, is, can.released))
        can.messages in
        raised_least (GoesBefore i plan p) (end_of i plan) arrived (length i.processes) time other others floor (λ x inside by. can.others x inside by.0 by.1);
  }

  -- at any later time all is over too
  pub can_start_later : (time late : ℕ) → CanStart i plan p time → time ≤ late → CanStart i plan p late
  can_start_later time late can after = record {
    released = omega (arith, can.released, after);
    others = λ x inside node ends. omega (arith, can.others x inside node ends, after);
    messages = λ m inside receives. omega (arith, can.messages m inside receives, after);
  }

  module _ (v : IsValid i plan) (inside : p < length i.processes) where
    -- what it receives is there when it starts
    pub there_by_start : (m : ℕ) → m < length i.messages → Receives i p m → arrival i plan m ≤ start_of plan p
    there_by_start m within place =
        let at : slice_index (message_at i m).receivers place.0 ≡ p = grind (arith, common_steps, place.2) in
        omega (arith, v.arrived m within place.0 place.1, ap (start_of plan) at)

    -- it can start when it does
    pub can_start_now : CanStart i plan p (start_of plan p)
    can_start_now = record {
      released = v.released p inside;
      others = λ x within node ends. ends;
      messages = there_by_start;
    }
