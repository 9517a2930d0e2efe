-- What a fault of a plan shows beside the rule that it breaks: the rules before it hold, and what it names is there.
use Rattle.std.proofs.Common.{ℕ, ◌<◌, length, arith}
use Rattle.ttp_model.specs.declared.error.Place.TheVariants.{AtMessage, AtProcess}
use Rattle.ttp_model.specs.declared.plan.Plan.{Plan}
use Rattle.ttp_model.specs.Instance.{Instance, message_at, source_of}
use Rattle.ttp_model.specs.Rules.{IsInstance}
use Rattle.ttp_model.specs.Plans.{Capacities, Clause, HasLengths, Lengths, Order}
use Rattle.ttp_model.specs.Faults.{IsFirstLate, IsFirstOverfull, KeepsBefore, clause_number}
use Rattle.plan_reasons.specs.Slots.{CanBeLaid}

module _ (i : Instance) (plan : Plan) where
  pub with_lengths : (clause : Clause) → KeepsBefore i plan clause → 1 < clause_number clause → HasLengths i plan
  with_lengths clause before later = before.each Lengths later

  pub laid : (clause : Clause) → KeepsBefore i plan clause → 3 < clause_number clause → CanBeLaid i plan
  laid clause before later = record {
    lengths = before.each Lengths (omega (arith, later));
    order = before.each Order (omega (arith, later));
    capacities = before.each Capacities (omega (arith, later));
  }

  source_inside : (m : ℕ) → IsInstance i → m < length i.messages → source_of i m < length i.nodes
  source_inside m w inside = w.indices (AtProcess (message_at i m).sender) (w.indices (AtMessage m) inside).0

  pub frame_inside : (channels n r c : ℕ) → IsInstance i → IsFirstOverfull i plan channels n r c → n < length i.nodes
  frame_inside channels n r c w first = omega (arith, source_inside first.message w first.first.within, first.node)

  pub receiver_inside : (m q : ℕ) → IsInstance i → IsFirstLate i plan m q → q < length i.processes
  receiver_inside m q w first =
      let there = (w.indices (AtMessage m) first.within).1 first.place 0 first.first.within in
      omega (arith, there, first.receiver)
