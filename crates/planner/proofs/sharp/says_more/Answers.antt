use Rattle.std.proofs.Common.{◌≡◌, ap, sym, ◌∙◌}
use Rattle.std.proofs.lemmas.Bool.{false≢true}
use Rattle.tt_infer.specs.Targets.{target, known_value}
use Rattle.tt_infer.proofs.Determined.{fault-not_lawful}
use Rattle.planner.proofs.SharpSteps.{nothing_more, only_next, values_agree, values_differ}
use Rattle.planner.proofs.sharp.says_more.Goals as goal

pub returns-in-Ok-clause-next : goal.returns-in-Ok-clause-next
returns-in-Ok-clause-next c = λ g next. only_next c.args.facts.now c.args.step.now g c.apply.new.self.known c.in-Ok.ensures.step.1 next

pub returns-in-Ok-clause-more : goal.returns-in-Ok-clause-more
returns-in-Ok-clause-more c = λ more same.
    values_differ _ _ more (c.value.ensures ∙ ap (λ f. known_value f c.target-fact.result) same ∙ sym c.value-before.ensures)

pub returns-in-Ok-clause-same : goal.returns-in-Ok-clause-same
returns-in-Ok-clause-same c = λ fails.
    let s = c.args.facts.now in
    let fact : c.target-fact.result ≡ target s.instance c.args.step.now = c.target-fact.ensures ∙ ap (λ i. target i c.args.step.now) c.instance.ensures.value in
    let same = values_agree _ _ fails in
    nothing_more s c.args.step.now c.apply.new.self.known c.instance.ensures.inference c.in-Ok.ensures.step.1
    (sym (ap (known_value c.apply.new.self.known) fact) ∙ sym c.value.ensures ∙ same ∙ c.value-before.ensures ∙ ap (known_value s.known) fact)

pub returns-in-Err-clause-next : goal.returns-in-Err-clause-next
returns-in-Err-clause-next c = λ g next.
    let s = c.args.facts.now in
    absurd (fault-not_lawful s.instance s.choice s.goal s.known c.args.step.now g c.in-Err.field-0 c.in-Err.ensures.step.0 next.still next.lawful)

pub returns-in-Err-clause-more : goal.returns-in-Err-clause-more
returns-in-Err-clause-more c = λ more. absurd (false≢true more)

pub returns-in-Err-clause-same : goal.returns-in-Err-clause-same
returns-in-Err-clause-same c = λ fails. c.in-Err.ensures.step.1

pub returns-in-Ok-clause-about : goal.returns-in-Ok-clause-about
returns-in-Ok-clause-about c = c.apply.ensures.others

pub returns-in-Err-clause-about : goal.returns-in-Err-clause-about
returns-in-Err-clause-about c = c.apply.ensures.others
