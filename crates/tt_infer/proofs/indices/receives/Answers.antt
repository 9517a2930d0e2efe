use Rattle.std.proofs.Common.{ℕ, ◌<◌, ◌≤◌, arith}
use Rattle.std.proofs.lemmas.Bool.{false≢true}
use Rattle.tt_infer.proofs.indices.receives.Goals as goal

past : {m n : ℕ} → m < n → n ≤ m → ⊥
past lt le = omega arith

pub returns-clause-is : goal.returns-clause-is
returns-clause-is c = (
  λ is. (rw c.messages.ensures.value at c.if-m-messages.false, rw c.message_at.ensures.value at (c.contains.ensures.0 is)),
  λ receives. c.contains.ensures.1 (rw c.message_at.ensures.value receives.1),
)

pub returns-then-m-messages-clause-is : goal.returns-then-m-messages-clause-is
returns-then-m-messages-clause-is c = (
  λ is. absurd (false≢true is),
  λ receives. absurd (past receives.0 (rw c.messages.ensures.value at c.if-m-messages.true)),
)
