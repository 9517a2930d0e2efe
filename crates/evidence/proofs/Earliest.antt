-- What follows of an answer for a complete choice.
use Rattle.std.proofs.Common.{◌≡◌, ℕ, ◌<◌, ◌≤◌, length, slice_index, arith}
use Rattle.ttp_model.specs.declared.plan.Plan.{Plan}
use Rattle.ttp_model.specs.Instance.{Instance}
use Rattle.ttp_model.specs.Lists.{EachBelow}
use Rattle.ttp_model.specs.Plans.{IsValid, end_of, load_on}
use Rattle.ttp_model.specs.Delays.{delay}
use Rattle.tt_choice.specs.Choice.{Choice, IsIn}
use Rattle.earliest_starts.specs.declared.answer.Earliest.{Earliest}
use Rattle.earliest_starts.specs.declared.answer.Earliest.TheVariants.{Plan as AsPlan, Clash as AsClash}
use Rattle.earliest_starts.specs.Answers.{IsEarliestAnswer}
use Rattle.evidence.specs.Answers.{HasRoom, IsPlan, IsNoLater}

module _ (i : Instance) (c : Choice) where
  pub no_clash : (answer : Earliest) (plan : Plan) → IsEarliestAnswer i c answer → IsValid i plan → IsIn i c plan → IsPlan answer
  no_clash (AsPlan made ticks) plan says valid inside = tt
  no_clash (AsClash clash) plan says valid inside = absurd (says.1 plan inside valid)

  pub no_later : (answer : Earliest) (other : Plan) → IsEarliestAnswer i c answer → IsValid i other → IsIn i c other
      → ((plan : Plan) → EachBelow (length i.processes) (λ p. end_of i plan p ≤ delay i plan))
      → ((plan : Plan) → (p : ℕ) × (p < length i.processes) × (end_of i plan p ≡ delay i plan)) → IsNoLater i other answer
  no_later (AsPlan made ticks) other says valid inside each last =
      let p = last made in
      omega (arith, says.1, p.2, says.0.least other valid inside p.0 p.1, each other p.0 p.1)
  no_later (AsClash clash) other says valid inside each last = tt

  pub has_room : (answer : Earliest) (n r k : ℕ) → IsEarliestAnswer i c answer
      → ((plan : Plan) → IsValid i plan → load_on i plan n r k ≤ slice_index plan.caps n) → HasRoom i n r k answer
  has_room (AsPlan made ticks) n r k says fits = fits made says.0.valid
  has_room (AsClash clash) n r k says fits = tt
