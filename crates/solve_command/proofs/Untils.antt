-- The word `until` stands only where the best plan is short enough, and the word `gap` only where the bound is near.
use Rattle.std.proofs.Common.{◌≡◌, ℕ, Bool, true, false, Option, None, Some, codes, length, refl, ap, subst, arith}
use Rattle.std.proofs.lemmas.Bool.{leb-true}
use Rattle.ttp_model.specs.Instance.{Instance}
use Rattle.certificate.specs.Cert.{Cert}
use Rattle.planner.specs.found.FoundPlan.{FoundPlan}
use Rattle.planner.specs.outcome.Options.{Options}
use Rattle.planner.specs.outcome.Outcome.TheVariants as answer
use Rattle.planner.specs.outcome.Why.{Why}
use Rattle.planner.specs.outcome.Why.TheVariants as why
use Rattle.planner.specs.Answers.{IsCause, IsOutcome}
use Rattle.planner.specs.Ends.{IsNear}
use Rattle.solve_command.specs.Patience.{is_enough, IsEnough}
use Rattle.solve_command.specs.Solved.{why_word}

enough_is : (until best : Option ℕ) → is_enough until best ≡ true → IsEnough until best
enough_is None best is = absurd cc
enough_is (Some most) None is = absurd cc
enough_is (Some most) (Some ticks) is = leb-true ticks most is

-- the words for the other causes have other lengths
only_enough : (cause : Why) (enough : Bool) → why_word cause enough ≡ codes "until" → enough ≡ true
only_enough why.Budget enough is = let many : 6 ≡ 5 = ap length is in absurd (omega (arith, many))
only_enough why.Memory enough is = let many : 6 ≡ 5 = ap length is in absurd (omega (arith, many))
only_enough why.CalledOff true is = refl
only_enough why.CalledOff false is = let many : 4 ≡ 5 = ap length is in absurd (omega (arith, many))
only_enough why.Gap enough is = let many : 3 ≡ 5 = ap length is in absurd (omega (arith, many))
only_enough why.Part enough is = let many : 4 ≡ 5 = ap length is in absurd (omega (arith, many))

pub until_met : (until best : Option ℕ) (cause : Why) → why_word cause (is_enough until best) ≡ codes "until" → IsEnough until best
until_met until best cause is = enough_is until best (only_enough cause (is_enough until best) is)

-- and so have the words for the causes other than the gap
only_gap : (cause : Why) (enough : Bool) → why_word cause enough ≡ codes "gap" → cause ≡ why.Gap
only_gap why.Budget enough is = let many : 6 ≡ 3 = ap length is in absurd (omega (arith, many))
only_gap why.Memory enough is = let many : 6 ≡ 3 = ap length is in absurd (omega (arith, many))
only_gap why.CalledOff true is = let many : 5 ≡ 3 = ap length is in absurd (omega (arith, many))
only_gap why.CalledOff false is = let many : 4 ≡ 3 = ap length is in absurd (omega (arith, many))
only_gap why.Gap enough is = refl
only_gap why.Part enough is = let many : 4 ≡ 3 = ap length is in absurd (omega (arith, many))

near_by_gap : (i : Instance) (options : Options) (gap : ℕ) (cause : Why) (low : ℕ) (best : Option FoundPlan) (cert : Cert) → cause ≡ why.Gap
    → IsOutcome i options gap (answer.Stopped cause low best cert) → IsNear gap low best
near_by_gap i options gap cause low best cert same is = subst (IsCause i options gap low best cert) same is.says.cause

pub gap_met : (i : Instance) (options : Options) (gap : ℕ) (enough : Bool) (cause : Why) (low : ℕ) (best : Option FoundPlan) (cert : Cert)
    → IsOutcome i options gap (answer.Stopped cause low best cert) → why_word cause enough ≡ codes "gap" → IsNear gap low best
gap_met i options gap enough cause low best cert is word = near_by_gap i options gap cause low best cert (only_gap cause enough word) is
