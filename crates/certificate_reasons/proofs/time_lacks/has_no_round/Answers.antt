use Rattle.std.proofs.Common.{◌≡◌, ◌↔◌, Bool, IsTrue, false}
use Rattle.std.proofs.lemmas.Bool.{both_ways}
use Rattle.sought_plans.specs.Dominance.{IsSentTo}
use Rattle.sought_plans.specs.Known.{top_of}
use Rattle.certificate_reasons.proofs.time_lacks.has_no_round.Goals as goal

-- a message that isn't to the process isn't one that has no round
not_sent : (said : Bool) (Sent HasNone : Type 0) → (IsTrue said ↔ Sent) → said ≡ false → IsTrue said ↔ (Sent × HasNone)
not_sent said Sent HasNone is fails = (λ yes. absurd (both_ways said fails yes), λ both. is.1 both.0)

pub returns-else-receives : goal.returns-else-receives
returns-else-receives c =
    let s = c.args.facts.now in
    not_sent c.receives.result (IsSentTo s.instance c.args.p c.args.m) (top_of s.known c.args.m ≡ 0)
    (rw c.instance.ensures.value at c.receives.ensures.is) c.if-receives.false
