-- Logs that grow step by step.
use Rattle.std.proofs.Common.{◌≡◌, ◌≢◌, ℕ, ◌+◌, ◌<◌, List, [], ◌∷◌, ◌++◌, IsTrue, IsFalse, Bool, slice_index_or, not, nat_eq, inl, inr, arith, refl, ap, sym, ◌∙◌, append_assoc}
use Rattle.std.proofs.lemmas.Grind.{common_steps}
use Rattle.std.proofs.lemmas.Bool.{cases_Bool, cases_eq, false≢true, eq-eqb, eqb-true}
use Rattle.ttp_model.specs.declared.step.Step.{Step}
use Rattle.ttp_model.specs.Instance.{Instance}
use Rattle.tt_choice.specs.Choice.{Choice}
use Rattle.tt_infer.specs.Known.{Known}
use Rattle.tt_infer.specs.Facts.{Facts, AreFacts, after}
use Rattle.tt_infer.specs.Table.{IsLawful}
use Rattle.tt_infer.specs.Leaves.{Lead, LeadSharply}
use Rattle.tt_infer.specs.declared.fault.StepFault.{StepFault}
use Rattle.tt_infer.specs.Answers.{IsStepFault}
use Rattle.tt_infer.proofs.Sound.{step_is_about}
use Rattle.tt_infer.proofs.Determined.{fault-not_lawful, IsLawful-determined}
use Rattle.tt_infer.specs.Targets.{target, known_value}
use Rattle.step_logs.specs.Journal.{Journal, Advances, Sharpens, SharpensNothing, slack, slack_of}
use Rattle.tt_infer.proofs.Targets.{stays}
use Rattle.tt_infer.proofs.Rows.{target_is}
use Rattle.step_logs.proofs.Targets.{lowers}

-- Steps that sharpen, in two parts.
pub LeadSharply-append : (i : Instance) (c : Choice) (goal : ℕ) (f : Known) (steps others : List Step) (g h : Known) → LeadSharply i c goal f steps g → LeadSharply i c goal g others h → LeadSharply i c goal f (steps ++ others) h
LeadSharply-append i c goal f [] others g h first second = rw (← first) second
LeadSharply-append i c goal f (step ∷ steps) others g h first second =
    (first.0, (first.1.0, first.1.1, first.1.2, LeadSharply-append i c goal first.1.0 steps others g h first.1.3 second))

pub advances_refl : (log : Journal) → Advances log log
advances_refl log = record {
  more = [];
  facts = refl;
  steps = grind (arith, common_steps);
  lead = refl;
}

pub advances_trans : (a b c : Journal) → Advances a b → Advances b c → Advances a c
advances_trans a b c first second = record {
  more = first.more ++ second.more;
  facts = second.facts ∙ ap (λ (s : Facts). after s c.facts.known) first.facts;
  steps = second.steps ∙ ap (λ (steps : List Step). steps ++ second.more) first.steps ∙ append_assoc a.steps first.more second.more;
  lead = LeadSharply-append a.facts.instance a.facts.choice a.facts.goal a.facts.known first.more second.more b.facts.known c.facts.known first.lead (rw first.facts at second.lead);
}

-- a step that sharpens changes what is known
differs : (s : Facts) (step : Step) (g : Known) → Sharpens s step g → g ≢ s.known
differs s step g is same = omega (arith, is.falls, ap (slack s.instance) same)

pub advances_step : (log new : Journal) (step : Step) → new.facts ≡ after log.facts new.facts.known → new.steps ≡ log.steps ++ step ∷ [] → Sharpens log.facts step new.facts.known → Advances log new
advances_step log new step others steps is = record {
  more = step ∷ [];
  facts = others;
  steps = steps;
  lead = (is.open_before, (new.facts.known, is.lawful, differs log.facts step new.facts.known is, refl));
}

-- a lawful step that changes the value of its target sharpens
pub sharpens_changed : (s : Facts) (step : Step) (g : Known) → AreFacts s → IsFalse s.known.closed → IsLawful s.instance s.choice s.goal s.known step g → known_value g (target s.instance step) ≢ known_value s.known (target s.instance step) → Sharpens s step g
sharpens_changed s step g ok left lawful changes =
    let about = step_is_about s.instance s.choice s.goal s.known step lawful.conclusion ok.instance lawful.there lawful.premise lawful.concludes in
    let is = target_is s.instance s.choice s.goal s.known step lawful.conclusion lawful.concludes in
    let fell = lowers s.instance s.known ok.fits lawful.conclusion about (λ same. changes (rw (lawful.known, ← is) same)) in
    record { open_before = left; lawful = lawful; falls = rw lawful.known fell }

-- one that doesn't leaves what is known
pub stays_same : (s : Facts) (step : Step) (g : Known) → AreFacts s → IsLawful s.instance s.choice s.goal s.known step g → known_value g (target s.instance step) ≡ known_value s.known (target s.instance step) → g ≡ s.known
stays_same s step g ok lawful same =
    let about = step_is_about s.instance s.choice s.goal s.known step lawful.conclusion ok.instance lawful.there lawful.premise lawful.concludes in
    let is = target_is s.instance s.choice s.goal s.known step lawful.conclusion lawful.concludes in
    lawful.known ∙ stays s.instance s.known lawful.conclusion ok.fits about (rw (← lawful.known, is) same)

-- what a test of two numbers says
pub differ_from : (a b : ℕ) → IsTrue (not (nat_eq a b)) → a ≢ b
differ_from a b holds same = false≢true (rw (eq-eqb a b same) at holds)

pub same_from : (a b : ℕ) → IsFalse (not (nat_eq a b)) → a ≡ b
same_from a b fails = elim (cases_Bool (nat_eq a b)) [
  | inl equal ↦ eqb-true a b equal
  | inr other ↦ absurd (false≢true (sym (rw other at fails)))
]

-- a log with one more step
pub advances_pushed : (before after_it : Facts) (steps : List Step) (step : Step) → after_it ≡ after before after_it.known → Sharpens before step after_it.known → Advances (record { facts = before; steps = steps }) (record { facts = after_it; steps = steps ++ step ∷ [] })
advances_pushed before after_it steps step others is = advances_step (record { facts = before; steps = steps }) (record { facts = after_it; steps = steps ++ step ∷ [] }) step others refl is

-- a lawful step that leaves what is known is idle, and so is one that is refused
pub idle_taken : (s : Facts) (step : Step) (g : Known) → IsLawful s.instance s.choice s.goal s.known step g → g ≡ s.known → SharpensNothing s step
idle_taken s step g lawful same = record { leaves = λ left h other. IsLawful-determined s.instance s.choice s.goal s.known step h g other lawful ∙ same }

pub idle_refused : (s : Facts) (step : Step) (fault : StepFault) → IsStepFault s.instance s.choice s.goal s.known step fault → SharpensNothing s step
idle_refused s step fault is = record { leaves = λ left g lawful. absurd (fault-not_lawful s.instance s.choice s.goal s.known step g fault is left lawful) }

-- A sweep, step by step.
pub lower_yet : (first before now : Journal) (sharper : Bool) → (IsTrue sharper → slack_of before.facts < slack_of first.facts) → (IsFalse sharper → before ≡ first) → slack_of now.facts < slack_of before.facts → slack_of now.facts < slack_of first.facts
lower_yet first before now sharper lower same fell = elim (cases_Bool sharper) [
  | inl holds ↦ omega (arith, lower holds, fell)
  | inr fails ↦ omega (arith, fell, ap (λ (log : Journal). slack_of log.facts) (same fails))
]

pub idle_next : (before now : Journal) (steps : List Step) (n : ℕ) (step : Step) → now ≡ before → ((k : ℕ) (d : Step) → k < n → SharpensNothing before.facts (slice_index_or steps k d)) → SharpensNothing before.facts step → ((d : Step) → slice_index_or steps n d ≡ step) → (k : ℕ) (d : Step) → k < n + 1 → SharpensNothing now.facts (slice_index_or steps k d)
idle_next before now steps n step same idle here is k d below = rw same (elim (cases_eq k n) [
  | inl equal ↦ rw (equal, is d) here
  | inr other ↦ idle k d (omega (arith, below, other))
])
