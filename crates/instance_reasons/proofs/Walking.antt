-- Each process of a circle waits for the one before it, by a link or a message.
use Rattle.std.proofs.Common.{◌≡◌, ℕ, zero, suc, ◌+◌, ◌-◌, ◌<◌, ◌≤◌, inl, inr, List, length, slice_index, arith}
use Rattle.std.proofs.lemmas.Bool.{ne_eqb}
use Rattle.ttp_model.specs.Graph.{HasLink, HasMessage, IsClosedWalk, Leads}
use Rattle.ttp_model.specs.Instance.{Instance}
use Rattle.ttp_model.specs.Lists.{EachBelow}
use Rattle.instance_reasons.specs.Circles.{LinkLeads, MessageLeads, before_at}

pub step_leads : (i : Instance) (ps : List ℕ) (k : ℕ) → IsClosedWalk i ps → k < length ps → Leads i (before_at ps k) (slice_index ps k)
step_leads i ps zero walk inside = walk.closes
step_leads i ps (suc k) walk inside =
    let before : suc k - 1 ≡ k = omega arith in
    let next : k + 1 ≡ suc k = omega arith in
    rw (ne_eqb (suc k) 0 (omega arith), before) (rw next at (walk.each k (omega (arith, inside))))

pub no_link : (i : Instance) (p q n : ℕ) → length i.links ≤ n → EachBelow n (λ k. ¬ LinkLeads i p q k) → ¬ HasLink i p q
no_link i p q n all none = λ has. none has.link (omega (arith, all, has.is_there)) (has.before, has.after)

pub no_message : (i : Instance) (p q n : ℕ) → length i.messages ≤ n → EachBelow n (λ k. ¬ MessageLeads i p q k) → ¬ HasMessage i p q
no_message i p q n all none = λ has. none has.message (omega (arith, all, has.is_there)) (has.sender, has.receiver)

-- where no link leads a message does
pub by_message : (i : Instance) (p q : ℕ) → Leads i p q → ¬ HasLink i p q → HasMessage i p q
by_message i p q (inl has) none = absurd (none has)
by_message i p q (inr has) none = has
