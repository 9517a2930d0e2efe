use Rattle.std.proofs.Common.{◌∙◌, refl, sym, length-set, true}
use Rattle.used_decisions.specs.Tables.{order_place}
use Rattle.used_decisions.proofs.Gives.{given_still, given_least, given_greatest, given_before, flags_still}
use Rattle.used_decisions.proofs.given.Given.give.Goals as goal

pub returns-in-Start : goal.returns-in-Start
returns-in-Start c = record {
  flags = λ i has. has;
  given = λ i before step is so.
      let at = sym c.in-Start.is ∙ is in
      given_still i c.args.self.now before step so (λ m same. cc) (λ m same. cc) (λ p q same. cc);
}

pub returns-in-End : goal.returns-in-End
returns-in-End c = record {
  flags = λ i has. has;
  given = λ i before step is so.
      let at = sym c.in-End.is ∙ is in
      given_still i c.args.self.now before step so (λ m same. cc) (λ m same. cc) (λ p q same. cc);
}

pub returns-in-Closed : goal.returns-in-Closed
returns-in-Closed c = record {
  flags = λ i has. has;
  given = λ i before step is so.
      let at = sym c.in-Closed.is ∙ is in
      given_still i c.args.self.now before step so (λ m same. cc) (λ m same. cc) (λ p q same. cc);
}

pub returns-in-FirstRound : goal.returns-in-FirstRound
returns-in-FirstRound c = record {
  flags = λ i has. rw c.give_least.ensures (flags_still i c.args.self.now _ refl (length-set c.args.self.now.least c.in-FirstRound.m true) refl refl has);
  given = λ i before step is so. rw c.give_least.ensures (given_least i c.args.self.now before step so c.in-FirstRound.m (sym c.in-FirstRound.is ∙ is));
}

pub returns-in-LateRound : goal.returns-in-LateRound
returns-in-LateRound c = record {
  flags = λ i has. rw c.give_greatest.ensures (flags_still i c.args.self.now _ refl refl (length-set c.args.self.now.greatest c.in-LateRound.m true) refl has);
  given = λ i before step is so. rw c.give_greatest.ensures (given_greatest i c.args.self.now before step so c.in-LateRound.m (sym c.in-LateRound.is ∙ is));
}

pub returns-in-Order : goal.returns-in-Order
returns-in-Order c = record {
  flags =
      λ i has. rw c.give_before.ensures (flags_still i c.args.self.now _ refl refl refl (length-set c.args.self.now.before
      (order_place c.args.self.now.processes c.in-Order.p c.in-Order.q) true) has);
  given = λ i before step is so. rw c.give_before.ensures (given_before i c.args.self.now before step so c.in-Order.p c.in-Order.q (sym c.in-Order.is ∙ is));
}
