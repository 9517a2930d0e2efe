-- What judgements say, and that texts are judged in one way.
use Rattle.std.proofs.Common.{◌≡◌, ◌∙◌, ℕ, ◌+◌, ◌<◌, ◌≤◌, ◌↔◌, List, Option, None, Some, arith, ap, refl, sym, subst, inl, inr}
use Rattle.std.proofs.lemmas.Bool.{cases_lt}
use Rattle.ttp_model.specs.declared.plan.Plan.{Plan as Table}
use Rattle.ttp_model.specs.Instance.{Instance}
use Rattle.ttp_model.specs.Rules.{IsInstance}
use Rattle.ttp_model.specs.Delays.{HasNoPlan, IsLeastDelay, IsLowerBound}
use Rattle.ttp_model.proofs.ValidPlans.{bound_is_none}
use Rattle.plan_format.proofs.WholeText as plan_text
use Rattle.certificate.specs.Cert.{Cert}
use Rattle.certificate.proofs.WholeText as certificate_text
use Rattle.instance_text.specs.Stated.{stated}
use Rattle.command_streams.specs.Instances.{HasInstance}
use Rattle.plan_commands.specs.declared.front.Front.{Front}
use Rattle.plan_commands.specs.declared.front.Front.TheVariants as front
use Rattle.plan_commands.specs.declared.judge.Judgement.{Judgement}
use Rattle.plan_commands.specs.declared.judge.Judgement.TheVariants.{Least, NoPlan, Between}
use Rattle.plan_commands.specs.Verdicts.{HasValidPlan}
use Rattle.plan_commands.specs.Certified.{HasBound}
use Rattle.plan_commands.specs.Judged.{HasPlanOf, IsJudged, IsJudgementOf, IsReached, StandsBehind, StandsFor, limit_of}
use Rattle.plan_commands.proofs.AnswerLines.{begins_once}
use Rattle.plan_commands.proofs.Judging.{bound_below}

-- ---- what stands for a delay is a valid plan

plan_of_text : (i : Instance) (text : List ℕ) (best : Option ℕ) → HasPlanOf i text best → IsReached i best
plan_of_text i text None has = tt
plan_of_text i text (Some d) has = (has.0, (has.1.valid, has.1.has_delay))

plan_behind : (i : Instance) (begun : Front) (rest : List ℕ) (best : Option ℕ) → StandsBehind i begun rest best → IsReached i best
plan_behind i front.Plan rest best stands = plan_of_text i rest best stands
plan_behind i front.Headed rest best stands = plan_of_text i rest best stands
plan_behind i front.Bare rest best stands = subst (IsReached i) (sym stands.1) tt
plan_behind i front.NoPlan rest best stands = subst (IsReached i) (sym stands.1) tt

reached : (i : Instance) (plan : List ℕ) (best : Option ℕ) → StandsFor i plan best → IsReached i best
reached i plan best stands = plan_behind i stands.begun stands.rest best stands.stands

-- ---- what is said

module _ (limit : ℕ) (instance plan certificate : List ℕ) where
  pub least_said : (d : ℕ) → IsJudged limit instance plan certificate (Least d) → (i : Instance) × HasInstance instance i × IsLeastDelay i d
  least_said d judged =
      let is : IsReached judged.problem (Some d) = subst (IsReached judged.problem) judged.is.0 (reached judged.problem plan judged.best judged.stands) in (
        judged.problem,
        judged.has_instance,
        record {
          plan = is.0;
          valid = is.1.0;
          reached = is.1.1;
          bound = λ other valid. rw (← judged.is.1) (judged.has_bound.bound other valid);
        },
      )

  pub none_said : IsJudged limit instance plan certificate NoPlan → (i : Instance) × HasInstance instance i × HasNoPlan i
  none_said judged =
      let past : IsLowerBound judged.problem (judged.problem.cluster.horizon + 1) = subst (IsLowerBound judged.problem) judged.is.1 judged.has_bound.bound in
      (judged.problem, judged.has_instance, bound_is_none judged.problem judged.has_instance.instance past)

  pub between_said : (low : ℕ) (best : Option ℕ) → IsJudged limit instance plan certificate (Between low best)
      → (i : Instance) × HasInstance instance i × IsLowerBound i low × (low < limit_of i best) × IsReached i best
  between_said low best judged =
      let i = judged.problem in
      let same : best ≡ judged.best = judged.is.1.0 in (
        i,
        judged.has_instance,
        subst (IsLowerBound i) (sym judged.is.0) judged.has_bound.bound,
        rw (judged.is.0, same) judged.is.1.1,
        subst (IsReached i) (sym same) (reached i plan judged.best judged.stands),
      )

-- ---- each of the three texts says one thing

some_once : {A : Type 0} (o : Option A) (x y : A) → o ≡ Some x → o ≡ Some y → x ≡ y
some_once o x y first second = cc

instance_once : (bytes : List ℕ) (i j : Instance) → HasInstance bytes i → HasInstance bytes j → i ≡ j
instance_once bytes i j first second =
    let table = some_once _ _ _ first.states.document.parsed second.states.document.parsed in
    let stated_once = sym first.states.reading ∙ ap stated table ∙ second.states.reading in
    cc

delay_once : (i : Instance) (text : List ℕ) (p q : Table) (d e : ℕ) → IsInstance i → HasValidPlan i text p d → HasValidPlan i text q e → d ≡ e
delay_once i text p q d e w first second =
    let same = plan_text.spelled_once i p q d e w first.has_plan.spelled.value second.has_plan.spelled.value
    (sym first.has_plan.spelled.spelled ∙ second.has_plan.spelled.spelled) in
    same.1

text_once : (i : Instance) (text : List ℕ) (a b : Option ℕ) → IsInstance i → HasPlanOf i text a → HasPlanOf i text b → a ≡ b
text_once i text None b w first second = absurd first
text_once i text (Some d) None w first second = absurd second
text_once i text (Some d) (Some e) w first second = ap (λ (n : ℕ). Some n) (delay_once i text first.0 second.0 d e w first.1 second.1)

behind_once : (i : Instance) (begun : Front) (rest : List ℕ) (a b : Option ℕ) → IsInstance i → StandsBehind i begun rest a → StandsBehind i begun rest b → a ≡ b
behind_once i front.Plan rest a b w first second = text_once i rest a b w first second
behind_once i front.Headed rest a b w first second = text_once i rest a b w first second
behind_once i front.Bare rest a b w first second = first.1 ∙ sym second.1
behind_once i front.NoPlan rest a b w first second = first.1 ∙ sym second.1

place_once : (i : Instance) (plan : List ℕ) (a b : Option ℕ) → IsInstance i → StandsFor i plan a → StandsFor i plan b → a ≡ b
place_once i plan a b w first second =
    let same = begins_once plan first.begun second.begun first.rest second.rest first.begins second.begins in
    behind_once i second.begun second.rest a b w (rw (← same.0, ← same.1) first.stands) second.stands

bound_once : (limit : ℕ) (i : Instance) (certificate : List ℕ) (a b : ℕ) → HasBound limit i certificate a → HasBound limit i certificate b → a ≡ b
bound_once limit i certificate a b first second =
    let c = first.has_certificate.spelled in
    let d = second.has_certificate.spelled in
    let same = certificate_text.spelled_once first.cert second.cert c.value d.value (sym c.spelled ∙ d.spelled) in
    first.low_is ∙ ap (λ (cert : Cert). cert.low) same ∙ sym second.low_is

-- ---- they are judged by what they say

at_limit : (i : Instance) (best : Option ℕ) (low : ℕ) → low ≤ limit_of i best → limit_of i best ≤ low
    → (judgement : Judgement) × IsJudgementOf i best low judgement
at_limit i None low most least = (NoPlan, (refl, omega (arith, most, least)))
at_limit i (Some d) low most least = (Least d, (refl, omega (arith, most, least)))

judgement_of : (i : Instance) (best : Option ℕ) (low : ℕ) → low ≤ limit_of i best → (judgement : Judgement) × IsJudgementOf i best low judgement
judgement_of i best low within = elim (cases_lt low (limit_of i best)) [
  | inl below ↦ (Between low best, (refl, (refl, below)))
  | inr above ↦ at_limit i best low within above
]

judgement_once : (i : Instance) (best : Option ℕ) (low : ℕ) (a b : Judgement) → IsJudgementOf i best low a → IsJudgementOf i best low b → a ≡ b
judgement_once i best low (Least d) (Least e) first second = ap (λ (n : ℕ). Least n) (sym first.1 ∙ second.1)
judgement_once i best low (Least d) NoPlan first second = absurd (cc)
judgement_once i best low (Least d) (Between told given) first second =
    absurd (let below : low < limit_of i (Some d) = rw first.0 at second.1.1 in omega (arith, below, first.1))
judgement_once i best low NoPlan (Least e) first second = absurd (cc)
judgement_once i best low NoPlan NoPlan first second = refl
judgement_once i best low NoPlan (Between told given) first second =
    absurd (let below : low < limit_of i None = rw first.0 at second.1.1 in omega (arith, below, first.1))
judgement_once i best low (Between told given) (Least e) first second =
    absurd (let below : low < limit_of i (Some e) = rw second.0 at first.1.1 in omega (arith, below, second.1))
judgement_once i best low (Between told given) NoPlan first second =
    absurd (let below : low < limit_of i None = rw second.0 at first.1.1 in omega (arith, below, second.1))
judgement_once i best low (Between told given) (Between other last) first second = rw (first.0, first.1.0, second.0, second.1.0) refl

pub judged_of_texts : (limit : ℕ) (instance plan certificate : List ℕ) (i : Instance) (best : Option ℕ) (low : ℕ) → HasInstance instance i
    → StandsFor i plan best → HasBound limit i certificate low
    → (judgement : Judgement) × IsJudged limit instance plan certificate judgement
judged_of_texts limit instance plan certificate i best low has stands bound =
    let found = judgement_of i best low (bound_below limit i plan certificate best low stands bound) in
    (found.0, record { problem = i; has_instance = has; best = best; stands = stands; low = low; has_bound = bound; is = found.1 })

pub by_what_they_say : (limit : ℕ) (instance plan certificate : List ℕ) (i : Instance) (best : Option ℕ) (low : ℕ) (judgement : Judgement)
    → HasInstance instance i → StandsFor i plan best → HasBound limit i certificate low
    → IsJudged limit instance plan certificate judgement ↔ IsJudgementOf i best low judgement
by_what_they_say limit instance plan certificate i best low judgement has stands bound = (
  λ judged.
      let same_instance : judged.problem ≡ i = instance_once instance judged.problem i judged.has_instance has in
      let stands_so : StandsFor i plan judged.best = subst (λ (j : Instance). StandsFor j plan judged.best) same_instance judged.stands in
      let bound_so : HasBound limit i certificate judged.low = subst (λ (j : Instance). HasBound limit j certificate judged.low) same_instance judged.has_bound in
      let same_best : judged.best ≡ best = place_once i plan judged.best best has.instance stands_so stands in
      let same_low : judged.low ≡ low = bound_once limit i certificate judged.low low bound_so bound in
      let said : IsJudgementOf i judged.best judged.low judgement = subst (λ (j : Instance). IsJudgementOf j judged.best judged.low judgement)
      same_instance judged.is in
      subst (λ (n : ℕ). IsJudgementOf i best n judgement) same_low (subst (λ (o : Option ℕ). IsJudgementOf i o judged.low judgement) same_best said),
  λ is. record { problem = i; has_instance = has; best = best; stands = stands; low = low; has_bound = bound; is = is },
)

pub judged_once : (limit : ℕ) (instance plan certificate : List ℕ) (a b : Judgement) → IsJudged limit instance plan certificate a → IsJudged limit instance plan certificate b → a ≡ b
judged_once limit instance plan certificate a b first second =
    judgement_once second.problem second.best second.low a b
    ((by_what_they_say limit instance plan certificate second.problem second.best second.low a second.has_instance second.stands second.has_bound).0 first) second.is
