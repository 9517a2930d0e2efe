use Rattle.std.proofs.Common.{◌≡◌, ap, sym, ◌∙◌}
use Rattle.std.proofs.lemmas.Bool.{false≢true}
use Rattle.tt_infer.specs.Facts.{after}
use Rattle.tt_infer.specs.Targets.{target, known_value}
use Rattle.step_logs.proofs.Logs.{sharpens_changed, stays_same, differ_from, same_from, idle_taken, idle_refused}
use Rattle.step_logs.proofs.journal.sharpens.Goals as goal

pub returns-in-Ok-clause-sharper : goal.returns-in-Ok-clause-sharper
returns-in-Ok-clause-sharper c = λ sharper.
    let s = c.args.facts.now in
    let fact : c.args.fact ≡ target s.instance c.args.step.now = c.requires.writes in
    let apart = differ_from _ _ sharper in
    sharpens_changed s c.args.step.now c.apply.new.self.known c.instance-instance.ensures.inference c.in-Ok.ensures.step.0 c.in-Ok.ensures.step.1
    (λ same. apart (c.value.ensures ∙ ap (known_value c.apply.new.self.known) fact ∙ same ∙ sym (ap (known_value s.known) fact) ∙ sym c.requires.known))

pub returns-in-Ok-clause-same : goal.returns-in-Ok-clause-same
returns-in-Ok-clause-same c = λ fails.
    let s = c.args.facts.now in
    let fact : c.args.fact ≡ target s.instance c.args.step.now = c.requires.writes in
    let same = same_from _ _ fails in
    let known = stays_same s c.args.step.now c.apply.new.self.known c.instance-instance.ensures.inference c.in-Ok.ensures.step.1
    (sym (ap (known_value c.apply.new.self.known) fact) ∙ sym c.value.ensures ∙ same ∙ c.requires.known ∙ ap (known_value s.known) fact) in
    c.apply.ensures.others ∙ ap (after s) known

pub returns-in-Ok-clause-idle : goal.returns-in-Ok-clause-idle
returns-in-Ok-clause-idle c = λ fails.
    let s = c.args.facts.now in
    let fact : c.args.fact ≡ target s.instance c.args.step.now = c.requires.writes in
    let same = same_from _ _ fails in
    let known = stays_same s c.args.step.now c.apply.new.self.known c.instance-instance.ensures.inference c.in-Ok.ensures.step.1
    (sym (ap (known_value c.apply.new.self.known) fact) ∙ sym c.value.ensures ∙ same ∙ c.requires.known ∙ ap (known_value s.known) fact) in
    idle_taken s c.args.step.now c.apply.new.self.known c.in-Ok.ensures.step.1 known

pub returns-in-Err-clause-idle : goal.returns-in-Err-clause-idle
returns-in-Err-clause-idle c = λ fails. idle_refused c.args.facts.now c.args.step.now c.in-Err.field-0 c.in-Err.ensures.step.0

pub returns-in-Ok-clause-others : goal.returns-in-Ok-clause-others
returns-in-Ok-clause-others c = c.apply.ensures.others

pub returns-in-Err-clause-others : goal.returns-in-Err-clause-others
returns-in-Err-clause-others c = c.apply.ensures.others

pub returns-in-Err-clause-same : goal.returns-in-Err-clause-same
returns-in-Err-clause-same c = λ fails. c.apply.ensures.others ∙ ap (after c.args.facts.now) c.in-Err.ensures.step.1

pub returns-in-Err-clause-sharper : goal.returns-in-Err-clause-sharper
returns-in-Err-clause-sharper c = λ sharper. absurd (false≢true sharper)
